use Rattle.gh_path.proofs.PassedLemmas.{IsWide, NoneBefore}
use Rattle.gh_path.proofs.limits.paths_limit.Given as goal

abbrev pub invariant-loop-place : goal.invariant-loop-place
invariant-loop-place l = NoneBefore IsWide l.aheads l.place
