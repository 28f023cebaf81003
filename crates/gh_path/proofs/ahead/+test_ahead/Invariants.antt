use Rattle.std.proofs.Common.{◌≡◌, ◌≤◌, length, drop}
use Rattle.gh_ast.specs.Plain.{conds_view}
use Rattle.gh_path.specs.Counting.{before_all, before_some}
use Rattle.gh_path.proofs.ahead.+test_ahead.Given as goal

abbrev pub invariant-before_all-loop-left : goal.invariant-before_all-loop-left
invariant-before_all-loop-left l = record {
  within : l.left ≤ length l.tests;
  far : l.ahead ≡ before_all (conds_view (drop l.left l.tests)) l.fn.yes l.fn.no;
  other : l.no ≡ l.fn.no;
}

abbrev pub decreases-before_all-loop-left : goal.decreases-before_all-loop-left
decreases-before_all-loop-left l = l.left

abbrev pub invariant-before_some-loop-left : goal.invariant-before_some-loop-left
invariant-before_some-loop-left l = record {
  within : l.left ≤ length l.tests;
  far : l.ahead ≡ before_some (conds_view (drop l.left l.tests)) l.fn.yes l.fn.no;
  other : l.yes ≡ l.fn.yes;
}

abbrev pub decreases-before_some-loop-left : goal.decreases-before_some-loop-left
decreases-before_some-loop-left l = l.left
