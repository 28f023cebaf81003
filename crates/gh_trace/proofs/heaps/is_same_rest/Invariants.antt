use Rattle.std.proofs.Common.{drop}
use Rattle.gh_trace.proofs.Lefts.{SameSoFar}
use Rattle.gh_trace.proofs.heaps.is_same_rest.Given as goal

abbrev pub invariant-loop-cell : goal.invariant-loop-cell
invariant-loop-cell l = SameSoFar l.initial.one.1 l.initial.other.1 (drop l.cell-index l.cells) l.one.1 l.other.1
