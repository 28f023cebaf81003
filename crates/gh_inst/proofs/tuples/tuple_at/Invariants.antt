use Rattle.std.proofs.Common.{◌≡◌, ◌-◌, ◌^◌, ◌<◌, ◌++◌, take, length}
use Rattle.gh_inst.proofs.TupleLemmas.{digits}
use Rattle.gh_inst.proofs.tuples.tuple_at.Given as goal

abbrev pub invariant-loop-i : goal.invariant-loop-i
invariant-loop-i g l = record {
  turn : l.turn ≡ l.terms ^ (g.row.V - l.i);
  within : l.rest < l.turn;
  long : length l.tuple ≡ g.row.V;
  filled : take l.i l.tuple ++ digits (g.row.V - l.i) l.terms l.rest ≡ digits g.row.V l.terms l.place;
}
