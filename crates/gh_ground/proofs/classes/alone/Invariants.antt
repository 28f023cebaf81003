use Rattle.std.proofs.Common.{◌≡◌, ◌<◌, ℕ, length}
use Rattle.gh_base.specs.Structures.{class_at}
use Rattle.gh_ground.proofs.classes.alone.Given as goal

abbrev pub invariant-loop-term : goal.invariant-loop-term
invariant-loop-term l = record {
  long : length l.classes.items ≡ l.term;
  each : (t : ℕ) → t < length l.classes.items → class_at l.classes.items t ≡ t;
}
