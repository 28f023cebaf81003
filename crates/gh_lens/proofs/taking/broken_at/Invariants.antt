use Rattle.std.specs.FinMap.{len}
use Rattle.gh_lens.proofs.Parting.{Continues}
use Rattle.gh_lens.proofs.taking.broken_at.Given as goal

abbrev pub invariant-loop-at : goal.invariant-loop-at
invariant-loop-at l = Continues l.fn.from l.to l.fn.rest l.at l.left

abbrev pub decreases-loop-at : goal.decreases-loop-at
decreases-loop-at l = len l.left
