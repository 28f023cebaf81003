use Rattle.std.proofs.Common.{drop, ◌≤◌, length}
use Rattle.gh_ast.specs.Plain.{conds_view}
use Rattle.gh_path.specs.Graphs.{Graph, all_tested, some_tested}
use Rattle.gh_path.specs.Lowered.{Grows}
use Rattle.gh_path.specs.Shown.{Shows, AddsNodes}
use Rattle.gh_path.proofs.lowering.Lowering.+lower_test.Given as goal

abbrev pub invariant-lower_all-loop-left : goal.invariant-lower_all-loop-left
invariant-lower_all-loop-left l = record {
  within : l.left ≤ length l.tests;
  grows : Grows l.fn.nodes l.nodes l.place;
  adds : (g k : Graph) → Shows l.fn.nodes l.fn.yes g → Shows l.fn.nodes l.fn.no k →
      AddsNodes l.fn.nodes l.nodes l.place (all_tested (conds_view (drop l.left l.tests)) g k);
}

abbrev pub invariant-lower_some-loop-left : goal.invariant-lower_some-loop-left
invariant-lower_some-loop-left l = record {
  within : l.left ≤ length l.tests;
  grows : Grows l.fn.nodes l.nodes l.place;
  adds : (g k : Graph) → Shows l.fn.nodes l.fn.yes g → Shows l.fn.nodes l.fn.no k →
      AddsNodes l.fn.nodes l.nodes l.place (some_tested (conds_view (drop l.left l.tests)) g k);
}

abbrev pub decreases-lower_all-loop-left : goal.decreases-lower_all-loop-left
decreases-lower_all-loop-left l = l.left

abbrev pub decreases-lower_some-loop-left : goal.decreases-lower_some-loop-left
decreases-lower_some-loop-left l = l.left
