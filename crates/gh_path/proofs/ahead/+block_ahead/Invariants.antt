use Rattle.std.proofs.Common.{◌≡◌, ◌≤◌, length, drop}
use Rattle.gh_ast.specs.Plain.{statements_view}
use Rattle.gh_path.specs.Counting.{before_block}
use Rattle.gh_path.proofs.ahead.+block_ahead.Given as goal

abbrev pub invariant-before_block-loop-left : goal.invariant-before_block-loop-left
invariant-before_block-loop-left l = record {
  within : l.left ≤ length l.statements;
  far : l.ahead ≡ before_block (statements_view (drop l.left l.statements)) l.fn.after;
}

abbrev pub decreases-before_block-loop-left : goal.decreases-before_block-loop-left
decreases-before_block-loop-left l = l.left
