use Rattle.std.proofs.Common.{ℕ, ◌≡◌, ◌+◌, drop, ◌≤◌, length}
use Rattle.gh_ast.specs.Plain.{program_of, statements_view}
use Rattle.gh_path.specs.Graphs.{Graph, all_lowered, all_loops}
use Rattle.gh_path.specs.Lowered.{Grows}
use Rattle.gh_path.specs.Shown.{Shows, AddsNodes}
use Rattle.gh_path.proofs.lowering.Lowering.+lower_body.Given as goal

abbrev pub invariant-lower_block-loop-left : goal.invariant-lower_block-loop-left
invariant-lower_block-loop-left l = record {
  within : l.left ≤ length l.statements;
  grows : Grows l.fn.nodes l.nodes l.place;
  adds : (n : ℕ) (g : Graph)
      → n + length (all_loops (statements_view (drop l.left l.statements)))
      ≡ l.fn.first + length (all_loops (statements_view l.statements)) →
      Shows l.fn.nodes l.fn.next g
      → AddsNodes l.fn.nodes l.nodes l.place
      (all_lowered (program_of l.self.program.now) n (statements_view (drop l.left l.statements)) g);
}

abbrev pub decreases-lower_block-loop-left : goal.decreases-lower_block-loop-left
decreases-lower_block-loop-left l = l.left
