use Rattle.gh_ast.specs.Questions.{question_of}
use Rattle.gh_entail.proofs.Faults.{broken_first}
use Rattle.gh_entail.proofs.admit.first_fault.Goals as goal

pub returns : goal.returns
returns c =
    broken_first (question_of c.args.question.now) _ _ _ c.earlier.ensures c.in_ok-unknown.ensures
    c.in_ok-duplicate.ensures
