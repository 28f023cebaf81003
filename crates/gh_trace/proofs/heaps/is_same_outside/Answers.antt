use Rattle.std.proofs.Common.{◌∙◌, sym, ap}
use Rattle.std.specs.Ordering.{nat_cmp}
use Rattle.std.specs.FinMap.{get, find, get-entries}
use Rattle.gh_trace.proofs.Lefts.{none_left}
use Rattle.gh_trace.proofs.heaps.is_same_outside.Goals as goal

pub is_same_rest-requires : goal.is_same_rest-requires
is_same_rest-requires c q none =
    ap (λ h. get h q) c.take_all.ensures
    ∙ none_left c.args.places.now c.in_ok-rest.rest.1 q
    (ap (λ h. get h q) c.in_ok-rest.ensures.all ∙ get-entries c.args.one.now q
    ∙ ap (find nat_cmp q) (sym c.cells.ensures.entries) ∙ none)
