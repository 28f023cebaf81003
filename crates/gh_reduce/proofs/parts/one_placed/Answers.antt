use Rattle.std.proofs.Common.{◌≡◌, ◌∙◌, ◌+◌, ◌++◌, ◌∷◌, List, drop, map, ap, sym, subst}
use Rattle.gh_grass.specs.declared.formula.Formula.{Formula}
use Rattle.gh_grass.specs.declared.formula.Formula.TheVariants.{And}
use Rattle.gh_grass.specs.Claims.{GroundFormula, ground_formula_of, ground_formulas_of, ground_formula_list}
use Rattle.gh_grass.specs.Claims.{conjunction_of}
use Rattle.gh_grass.proofs.ClaimLemmas.{put_more, claim_of-And}
use Rattle.gh_symb.specs.Symbolic.{Under}
use Rattle.gh_symb.specs.Encodings.{plain_kind}
use Rattle.gh_symb.specs.Inside.{under_of}
use Rattle.gh_reduce.specs.Parts.{placed_of}
use Rattle.gh_reduce.proofs.PartLemmas.{bounds_from}
use Rattle.gh_reduce.proofs.parts.one_placed.Goals as goal

pub loop-bound-preserved : goal.loop-bound-preserved
loop-bound-preserved c =
    let bs = c.args.after.now in
    let i = c.loop-bound.bound-index in
    let F : Under → GroundFormula =
    placed_of (map plain_kind c.args.terms.now) c.args.old (under_of c.args.before.now) in
    let b = c.bound-item.result in
    let here : List GroundFormula = map F (map under_of (drop i bs)) in
    let rest : List GroundFormula = map F (map under_of (drop (i + 1) bs)) in
    let f = And c.in_ok-placed.placed in
    let is : ground_formula_of f ≡ F (under_of b) =
    claim_of-And c.in_ok-placed.placed ∙ ap (λ cs. conjunction_of (ground_formulas_of cs)) c.in_ok-placed.ensures in
    let split : here ≡ ground_formula_of f ∷ rest =
    ap (map F) (bounds_from bs i b c.loop-bound-test.true c.bound-item.is) ∙ ap (λ x. x ∷ rest) (sym is) in
    subst (λ (fs : List Formula). ground_formula_list fs ++ rest ≡ map F (map under_of bs))
    (sym c.in_ok-push.ensures.items)
    (put_more c.loop-bound.members.items f here rest (map F (map under_of bs)) c.loop-bound.invariant split)
