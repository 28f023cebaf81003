use Rattle.std.proofs.Common.{◌≤◌, length}
use Rattle.gh_base.specs.Grounds.{Problem}
use Rattle.gh_ground.proofs.TrimLemmas.{IsGood, IsRenumbered}
use Rattle.gh_ground.proofs.trim.shorten.Given as goal

abbrev pub invariant-loop-place : goal.invariant-loop-place
invariant-loop-place l = record {
  few : length l.trimmed.lines ≤ l.place;
  trimmed : (p : Problem) → IsGood p l.lines
      → IsRenumbered p l.lines l.kept l.place l.trimmed.lines l.trimmed.positions.items;
}
