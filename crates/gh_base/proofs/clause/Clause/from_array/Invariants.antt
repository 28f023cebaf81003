use Rattle.std.proofs.Common.{◌≡◌, take}
use Rattle.gh_base.proofs.clause.Clause.from_array.Given as goal

abbrev pub invariant-loop-i : goal.invariant-loop-i
invariant-loop-i g l = record {
  lits : l.lits.items ≡ take l.i l.few;
  capacity : l.lits.capacity ≡ 4;
}
