use Rattle.std.proofs.Common.{◌∙◌, ◌+◌, ◌++◌, ◌∷◌, [], ℕ, map, ap, arith}
use Rattle.gh_grass.specs.Claims.{ground_formula_of}
use Rattle.gh_symb.specs.Formulas.{meets, alternatives_formulas, each_pair}
use Rattle.gh_symb.specs.Encodings.{plain_kind}
use Rattle.gh_reduce.specs.declared.rows.EachPair.TheVariants.{Kept}
use Rattle.gh_reduce.specs.Growth.{stated_in}
use Rattle.gh_symb.specs.Inside.{under_of}
use Rattle.gh_reduce.specs.Rows.{of_pair}
use Rattle.gh_reduce.proofs.InsideLemmas.{meets_within}
use Rattle.gh_reduce.proofs.RowLemmas.{claim_within, first_one, some_more, pairs_more}
use Rattle.gh_reduce.proofs.parts.add_part.Goals as goal

pub add_formula-requires : goal.add_formula-requires
add_formula-requires c =
    let some = c.requires.ready.some in
    claim_within c.args.ground.now.sizes _ (ground_formula_of c.in_ok-taken.taken) c.in_ok-taken.ensures
    (meets_within c.args.ground.now.sizes (map plain_kind c.args.terms.now) (under_of c.args.change.before.now)
    c.requires.ready.terms (omega (arith, some)) c.requires.inside.before)

pub returns : goal.returns
returns c =
    let p = c.args.ground.now in
    let ks = map plain_kind c.args.terms.now in
    let i = c.args.change.old in
    let f = meets ks (under_of c.args.change.before.now) in
    let gs = alternatives_formulas ks i (under_of c.args.change.before.now) (map under_of c.args.change.after.now) in
    let d = of_pair (Kept i (i + 1) c.args.change.before) in
    let start =
    first_one p c.add_formula.new.ground f (ground_formula_of c.in_ok-taken.taken)
    c.in_ok-add_formula.ensures.stated c.in_ok-taken.ensures in
    let e =
    some_more p c.add_formula.new.ground c.add_alternatives.new.ground (f ∷ []) gs start
    c.in_ok-add_alternatives.ensures in
    pairs_more p c.add_alternatives.new.ground c.add_each_pair.new.ground ((f ∷ []) ++ gs) d e
    c.in_ok-add_each_pair.ensures.stated
    ∙ ap (λ (n : ℕ). stated_in p (((f ∷ []) ++ gs) ++ each_pair n d)) c.requires.ready.terms
