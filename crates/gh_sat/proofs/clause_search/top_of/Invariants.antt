use Rattle.std.proofs.Common.{take}
use Rattle.gh_sat.specs.Trail.{IsFalseIn}
use Rattle.gh_sat.specs.Learn.{IsTop}
use Rattle.gh_sat.proofs.clause_search.top_of.Given as goal

abbrev pub invariant-loop-lit : goal.invariant-loop-lit
invariant-loop-lit l = record {
  so_far : IsFalseIn l.trail.steps (take l.lit-index l.clause);
  top : IsTop l.trail.steps (take l.lit-index l.clause) l.top;
}
