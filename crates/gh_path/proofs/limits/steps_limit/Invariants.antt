use Rattle.gh_path.proofs.PassedLemmas.{IsLong, NoneBefore}
use Rattle.gh_path.proofs.limits.steps_limit.Given as goal

abbrev pub invariant-loop-place : goal.invariant-loop-place
invariant-loop-place l = NoneBefore IsLong l.aheads l.place
