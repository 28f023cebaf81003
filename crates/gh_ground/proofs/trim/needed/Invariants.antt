use Rattle.std.proofs.Common.{◌≤◌, length}
use Rattle.gh_ground.specs.Trimming.{AreNeeded}
use Rattle.gh_ground.proofs.trim.needed.Given as goal

abbrev pub invariant-loop-place : goal.invariant-loop-place
invariant-loop-place l = record {
  within : l.place ≤ length l.lines;
  needed : AreNeeded l.lines l.kept.items l.place;
}

abbrev pub decreases-loop-place : goal.decreases-loop-place
decreases-loop-place l = l.place
