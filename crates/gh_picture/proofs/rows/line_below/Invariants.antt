use Rattle.std.proofs.Common.{ℕ, ◌+◌, ◌<◌, ◌≤◌}
use Rattle.gh_picture.specs.Rows.{cut}
use Rattle.gh_picture.specs.Spots.{spot_at}
use Rattle.gh_picture.proofs.rows.line_below.Given as goal

abbrev pub invariant-loop-spot : goal.invariant-loop-spot
invariant-loop-spot l = record {
  caption : cut (l.top + 1) ≤ l.below;
  cells : (i : ℕ) → i < l.spot-index → cut (l.top + (spot_at l.spots i).line + 1) ≤ l.below;
}
