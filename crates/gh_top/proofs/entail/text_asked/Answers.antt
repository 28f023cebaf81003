use Rattle.std.proofs.Common.{◌≤◌, length, arith, sym, subst}
use Rattle.gh_ast.specs.Questions.{question_of}
use Rattle.gh_ast.specs.Limits.{most_bytes}
use Rattle.gh_top.specs.Entails.{IsQuestionText}
use Rattle.gh_top.proofs.QuestionLemmas.{asked_text}
use Rattle.gh_top.proofs.entail.text_asked.Goals as goal

pub returns-clause-posed : goal.returns-clause-posed
returns-clause-posed c =
    let short : length c.args.text.now ≤ most_bytes = omega (arith, c.if-text-gt-MOST_BYTES.false) in
    subst (λ q. IsQuestionText c.args.text.now (question_of q)) (sym c.in_ok-asked.ensures.same)
    (asked_text c.args.text.now (question_of c.in_ok-question.question) short c.in_ok-question.ensures.parsed)
