use Rattle.gh_types.proofs.FirstLemmas.{first_one}
use Rattle.gh_types.proofs.scope.Scope.in_expr.Goals as goal

pub returns-in-Plain : goal.returns-in-Plain
returns-in-Plain c = rw c.in-Plain.is c.in_operand.ensures

pub returns-in-Read : goal.returns-in-Read
returns-in-Read c = rw c.in-Read.is (first_one _ _ _ c.in_occurrence.ensures)
