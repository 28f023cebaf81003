use Rattle.std.proofs.Common.{◌≡◌, ◌≤◌, ℕ, length, take}
use Rattle.std.specs.Prelude.{slice_get}
use Rattle.gh_ground.specs.Trimming.{IsKeptAt, AreKeptBefore, KeepsOnly}
use Rattle.gh_ground.proofs.trim.keep_all.Given as goal

abbrev pub invariant-loop-position : goal.invariant-loop-position
invariant-loop-position l = record {
  long : length l.kept.items ≡ length l.fn.kept.items;
  keeps : (k : ℕ) → IsKeptAt l.fn.kept.items k → IsKeptAt l.kept.items k;
  later : (k : ℕ) → l.place ≤ k → slice_get l.kept.items k ≡ slice_get l.fn.kept.items k;
  all : AreKeptBefore l.kept.items l.place (take l.position-index l.positions);
  only : KeepsOnly l.fn.kept.items l.kept.items l.place (take l.position-index l.positions);
}
