use Rattle.std.proofs.Common.{drop}
use Rattle.gh_trace.proofs.Besides.{BesideSoFar}
use Rattle.gh_trace.proofs.heaps.cells_beside.Given as goal

abbrev pub invariant-loop-cell : goal.invariant-loop-cell
invariant-loop-cell l = BesideSoFar l.heap l.initial.frame.1 (drop l.cell-index l.cell-items) l.other l.frame.1
