use Rattle.std.proofs.Common.{◌++◌, drop}
use Rattle.gh_ast.specs.Programs.{names}
use Rattle.gh_trace.specs.Targets.{entries_of}
use Rattle.gh_trace.proofs.Listings.{AddsUp}
use Rattle.gh_trace.proofs.stores.add_all.Given as goal

abbrev pub invariant-loop-i : goal.invariant-loop-i
invariant-loop-i l =
    AddsUp (l.initial.store ++ entries_of (names l.occurrences) l.values) l.store (drop l.i l.occurrences)
    (drop l.i l.values)
