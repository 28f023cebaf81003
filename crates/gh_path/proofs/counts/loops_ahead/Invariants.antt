use Rattle.std.proofs.Common.{◌≡◌, ◌≤◌, length, drop, map}
use Rattle.gh_path.specs.Counting.{loops_ahead}
use Rattle.gh_path.specs.Walking.{loop_of}
use Rattle.gh_path.proofs.counts.loops_ahead.Given as goal

abbrev pub invariant-loop-left : goal.invariant-loop-left
invariant-loop-left l = record {
  within : l.left ≤ length l.turns;
  far : l.ahead ≡ loops_ahead (map loop_of (drop l.left l.turns));
}

abbrev pub decreases-loop-left : goal.decreases-loop-left
decreases-loop-left l = l.left
