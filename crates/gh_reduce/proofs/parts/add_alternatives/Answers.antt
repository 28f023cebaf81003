use Rattle.std.proofs.Common.{◌≡◌, ◌∙◌, ◌∷◌, [], List, map, ap, sym, subst, arith}
use Rattle.std.proofs.lemmas.List.Elements.{All-head}
use Rattle.gh_grass.specs.Claims.{GroundFormula, ground_formula_of, ground_formulas_of, ground_formula_list, one_of}
use Rattle.gh_symb.specs.Encodings.{plain_kind}
use Rattle.gh_symb.specs.declared.over_terms.BoundAssertion.{BoundAssertion}
use Rattle.gh_reduce.specs.Growth.{stated_in, AreWithin}
use Rattle.gh_symb.specs.Inside.{under_of, AllAreInside, IsUnderInside}
use Rattle.gh_reduce.specs.Parts.{placed_of}
use Rattle.gh_reduce.proofs.PartLemmas.{placed_within, alternatives_within, is_one, several_placed}
use Rattle.gh_reduce.proofs.RowLemmas.{claim_within, first_one}
use Rattle.gh_reduce.proofs.parts.add_alternatives.Goals as goal

pub add_formulas-requires : goal.add_formulas-requires
add_formulas-requires c =
    let s = c.args.ground.now.sizes in
    let ks = map plain_kind c.args.terms.now in
    let bs = c.args.change.after.now in
    let only = c.only-item.result in
    let some = c.requires.ready.some in
    let is : bs ≡ only ∷ [] =
    is_one bs only (omega (arith, c.in-len1.len_at_least, c.in-len1.len_below)) c.only-item.is in
    let all =
    subst (λ (xs : List BoundAssertion). AllAreInside s.terms s.versions (map under_of xs)) is
    c.requires.inside.after in
    subst (λ (cs : List GroundFormula). AreWithin s (ground_formulas_of cs))
    (sym (ap ground_formula_list c.as_slice.ensures.value ∙ c.in_ok-placed-in-len1.ensures))
    (placed_within s ks c.args.change.old (under_of c.args.change.before.now) (under_of only) c.requires.ready.terms
    (omega (arith, some)) c.requires.inside.version c.requires.inside.before
    (All-head (IsUnderInside s.terms s.versions) (under_of only) [] all))

pub add_formula-requires-in_default : goal.add_formula-requires-in_default
add_formula-requires-in_default c =
    let s = c.args.ground.now.sizes in
    let ks = map plain_kind c.args.terms.now in
    let bs = c.args.change.after.now in
    let u = under_of c.args.change.before.now in
    let some = c.requires.ready.some in
    let all =
    alternatives_within s ks c.args.change.old u (map under_of bs) c.requires.ready.terms (omega (arith, some))
    c.requires.inside.version c.requires.inside.before c.requires.inside.after in
    claim_within s (one_of (map (placed_of ks c.args.change.old u) (map under_of bs)))
    (ground_formula_of c.in_ok-one-in_default.one) c.in_ok-one-in_default.ensures
    (subst (λ (cs : List GroundFormula). AreWithin s (ground_formulas_of cs))
    (several_placed ks c.args.change.old u bs c.in_default.len_at_least) all).0

pub returns-in_ok-add_formula-in_default : goal.returns-in_ok-add_formula-in_default
returns-in_ok-add_formula-in_default c =
    let p = c.args.ground.now in
    let ks = map plain_kind c.args.terms.now in
    let bs = c.args.change.after.now in
    let u = under_of c.args.change.before.now in
    first_one p c.add_formula-in_default.new.ground (one_of (map (placed_of ks c.args.change.old u) (map under_of bs)))
    (ground_formula_of c.in_ok-one-in_default.one) c.in_ok-add_formula-in_default.ensures.stated
    c.in_ok-one-in_default.ensures
    ∙ ap (stated_in p) (sym (several_placed ks c.args.change.old u bs c.in_default.len_at_least))
