use Rattle.gh_types.proofs.FirstLemmas.{first_one}
use Rattle.gh_types.proofs.scope.Scope.in_operand.Goals as goal

pub returns-in-Var : goal.returns-in-Var
returns-in-Var c = rw c.in-Var.is (first_one _ _ _ c.in_occurrence.ensures)
