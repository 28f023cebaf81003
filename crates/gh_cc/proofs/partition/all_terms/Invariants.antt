use Rattle.std.proofs.Common.{◌≡◌, ◌<◌, ℕ, Some, length}
use Rattle.std.specs.Prelude.{slice_get}
use Rattle.gh_cc.proofs.partition.all_terms.Given as goal

abbrev pub invariant-loop-t : goal.invariant-loop-t
invariant-loop-t l = record {
  long : length l.reps.items ≡ l.t;
  each : (t : ℕ) → t < l.t → slice_get l.reps.items t ≡ Some (record { 0 = t });
}
