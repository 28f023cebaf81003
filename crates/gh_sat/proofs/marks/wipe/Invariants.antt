use Rattle.std.proofs.Common.{◌≡◌, ◌≤◌, All, length, take}
use Rattle.gh_sat.proofs.marks.wipe.Given as goal

abbrev pub invariant-loop-i : goal.invariant-loop-i
invariant-loop-i l = record {
  zero : All (λ s. s ≤ 0) (take l.i l.stamps.items);
  long : length l.stamps.items ≡ length l.initial.stamps.items;
}
