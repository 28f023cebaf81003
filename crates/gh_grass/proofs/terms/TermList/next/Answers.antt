use Rattle.std.proofs.Common.{◌≡◌, rules, sym, get_or, Some}
use Rattle.std.proofs.lemmas.List.Quantifiers.{position-Some}
use Rattle.std.proofs.lemmas.Option.{slice_get-get_or}
use Rattle.std.specs.Prelude.{slice_get}
use Rattle.gh_base.specs.declared.term.TermKind.TheVariants.{Next}
use Rattle.gh_grass.proofs.terms.TermList.next.Goals as goal

pub returns-clause-found : goal.returns-clause-found
returns-clause-found c =
    let kinds = c.self.inside.kinds.keys in
    let kind = Next c.args.version c.args.of in
    let found = position-Some _ kinds c.in_ok-place.place kind (sym c.in_ok-place.ensures.index) in
    let at : slice_get kinds c.in_ok-place.place ≡ Some (get_or kinds c.in_ok-place.place kind) =
    slice_get-get_or kinds c.in_ok-place.place kind found.0 in
    let same : get_or kinds c.in_ok-place.place kind ≡ kind = search (rules, found.1) in
    let view = c.self.view_is in
    search (rules, at, same)
