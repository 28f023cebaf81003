use Rattle.std.proofs.Common.{◌≤◌, ◌<◌, ◌-◌}
use Rattle.gh_base.specs.Atoms.{pairs_below}
use Rattle.gh_base.proofs.sizes.equality_at.Given as goal

abbrev pub invariant-loop-greater : goal.invariant-loop-greater
invariant-loop-greater l = (pairs_below l.greater ≤ l.number) × (l.greater < l.terms)

abbrev pub decreases-loop-greater : goal.decreases-loop-greater
decreases-loop-greater l = l.terms - l.greater
