use Rattle.std.proofs.Common.{drop, ◌≤◌, length}
use Rattle.gh_path.specs.Graphs.{Graph, all_reads}
use Rattle.gh_path.specs.Lowered.{Grows}
use Rattle.gh_path.specs.Shown.{Shows, AddsNodes}
use Rattle.gh_path.proofs.lowering.Lowering.lower_reads.Given as goal

abbrev pub invariant-loop-left : goal.invariant-loop-left
invariant-loop-left l = record {
  within : l.left ≤ length l.exprs;
  grows : Grows l.fn.nodes l.nodes l.place;
  adds : (g : Graph) → Shows l.fn.nodes l.fn.next g
      → AddsNodes l.fn.nodes l.nodes l.place (all_reads (drop l.left l.exprs) g);
}

abbrev pub decreases-loop-left : goal.decreases-loop-left
decreases-loop-left l = l.left
