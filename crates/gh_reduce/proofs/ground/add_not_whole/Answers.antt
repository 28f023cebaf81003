use Rattle.std.proofs.Common.{◌≡◌, ◌∷◌, [], List, map, subst, arith}
use Rattle.std.proofs.lemmas.List.Elements.{All-head}
use Rattle.gh_grass.specs.Claims.{ground_formula_of, one_of}
use Rattle.gh_symb.specs.Formulas.{meets_whole}
use Rattle.gh_symb.specs.Encodings.{plain_kind}
use Rattle.gh_symb.specs.declared.over_terms.BoundAssertion.{BoundAssertion}
use Rattle.gh_symb.specs.Inside.{under_of, AllAreInside, IsUnderInside}
use Rattle.gh_reduce.proofs.InsideLemmas.{whole_within}
use Rattle.gh_reduce.proofs.PartLemmas.{is_one, one_within}
use Rattle.gh_reduce.proofs.RowLemmas.{claim_within}
use Rattle.gh_reduce.proofs.ground.add_not_whole.Goals as goal

pub add_failing-requires : goal.add_failing-requires
add_failing-requires c =
    let s = c.args.ground.now.sizes in
    let ks = map plain_kind c.args.terms.now in
    let bs = c.args.bounds.now in
    let only = c.only-item.result in
    let some = c.requires.ready.some in
    let is : bs ≡ only ∷ [] =
    is_one bs only (omega (arith, c.in-len1.len_at_least, c.in-len1.len_below)) c.only-item.is in
    let all =
    subst (λ (xs : List BoundAssertion). AllAreInside s.terms s.versions (map under_of xs)) is c.requires.inside in
    claim_within s (meets_whole ks (under_of only)) (ground_formula_of c.in_ok-meets_whole-in-len1.field-0)
    c.in_ok-meets_whole-in-len1.ensures
    (whole_within s ks (under_of only) c.requires.ready.terms (omega (arith, some))
    (All-head (IsUnderInside s.terms s.versions) (under_of only) [] all))

pub add_failing-requires-in_default : goal.add_failing-requires-in_default
add_failing-requires-in_default c =
    let s = c.args.ground.now.sizes in
    let ks = map plain_kind c.args.terms.now in
    let us = map under_of c.args.bounds.now in
    let some = c.requires.ready.some in
    claim_within s (one_of (map (meets_whole ks) us)) (ground_formula_of c.in_ok-meets_one-in_default.field-0)
    c.in_ok-meets_one-in_default.ensures
    (one_within s ks us c.requires.ready.terms (omega (arith, some)) c.requires.inside)
