-- Models of ground clauses and of the axioms.
use Rattle.std.specs.Prelude.{All}
use Rattle.gh_base.specs.Grounds.{Problem}
use Rattle.gh_base.specs.Meaning.{Interpretation, IsClauseTrue, IsCongruence}
use Rattle.gh_inst.specs.Violations.{AreInstancesTrue}

-- equality is a congruence, and all axiom instances and all clauses are true
pub record IsModel (p : Problem) (m : Interpretation) : Type 0 where
  pub congruence : IsCongruence p.sizes m
  pub instances : AreInstancesTrue p.sizes m
  pub clauses : All (IsClauseTrue m) p.clauses
