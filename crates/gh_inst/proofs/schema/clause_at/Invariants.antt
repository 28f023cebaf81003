use Rattle.std.proofs.Common.{◌≡◌, take, length}
use Rattle.gh_inst.specs.Schemas.{clause_over}
use Rattle.gh_inst.proofs.schema.clause_at.Given as goal

abbrev pub invariant-loop-i : goal.invariant-loop-i
invariant-loop-i g l = record {
  long : length l.lits ≡ g.row.L;
  filled : take l.i l.lits ≡ clause_over l.version l.terms (take l.i l.schema.lits);
}
