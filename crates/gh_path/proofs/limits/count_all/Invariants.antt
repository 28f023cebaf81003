use Rattle.std.proofs.Common.{◌≡◌, ◌+◌, ◌≤◌, drop, min}
use Rattle.gh_path.specs.Counting.{all_counts}
use Rattle.gh_path.proofs.limits.count_all.Given as goal

abbrev pub invariant-loop-ahead : goal.invariant-loop-ahead
invariant-loop-ahead l = record {
  total : min (l.count + all_counts (drop l.ahead-index l.aheads)) 4294967295 ≡ min (all_counts l.aheads) 4294967295;
  within : l.count ≤ 4294967295;
}
