use Rattle.std.proofs.Common.{◌≡◌, take, length}
use Rattle.gh_inst.proofs.naming.first_terms.Given as goal

abbrev pub invariant-loop-i : goal.invariant-loop-i
invariant-loop-i g l = record {
  long : length l.tuple ≡ g.row.V;
  filled : take l.i l.tuple ≡ take l.i l.terms;
}
