use Rattle.std.proofs.Common.{◌≡◌, ◌≤◌, length, drop}
use Rattle.gh_path.specs.Counting.{before_reads}
use Rattle.gh_path.proofs.ahead.before_reads.Given as goal

abbrev pub invariant-loop-left : goal.invariant-loop-left
invariant-loop-left l = record {
  within : l.left ≤ length l.exprs;
  far : l.ahead ≡ before_reads (drop l.left l.exprs) l.fn.after;
}

abbrev pub decreases-loop-left : goal.decreases-loop-left
decreases-loop-left l = l.left
