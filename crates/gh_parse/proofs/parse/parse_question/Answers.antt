use Rattle.std.proofs.Common.{ap, subst, sym, IfErr}
use Rattle.gh_ast.specs.QuestionGrammar.{SpellsQuestion}
use Rattle.gh_ast.specs.Questions.{question_of}
use Rattle.gh_parse.specs.Parsing.{IsQuestionRefusal, IsScanned}
use Rattle.gh_parse.specs.Views.{tokens_of}
use Rattle.gh_parse.proofs.Parsed.{answer_refused}
use Rattle.gh_parse.proofs.parse.parse_question.Goals as goal

pub returns-clause-refused : goal.returns-clause-refused
returns-clause-refused c =
    let lexed = c.in_ok-lexed.lexed in
    subst (λ r. IfErr r (IsQuestionRefusal c.args.text.now)) (sym c.answer.ensures)
    (answer_refused SpellsQuestion _ lexed.whole question_of c.question-read.result
    (subst (λ ts. IsScanned c.args.text.now ts lexed.end lexed.whole) (sym (ap tokens_of c.as_slice.ensures.value))
    c.in_ok-lexed.ensures) c.question-read.ensures)
