use Rattle.std.proofs.Common.{subst, sym}
use Rattle.gh_ast.specs.QuestionGrammar.{SpellsQuestion}
use Rattle.gh_ast.proofs.TokenLemmas.{one_whole}
use Rattle.gh_ast.proofs.OneQuestion.{one_question}
use Rattle.gh_ast.proofs.question_laws.have_one_question_law.Goals as goal

pub returns : goal.returns
returns c text p q a b =
    one_question a.0 p q a.2 (subst (λ z. SpellsQuestion z q) (sym (one_whole text a.0 b.0 a.1 b.1)) b.2)
