use Rattle.gh_ast.specs.Questions.{question_of}
use Rattle.gh_entail.specs.Answers.{IsAnswer}
use Rattle.gh_entail.specs.declared.answer.Entailment.TheVariants.{Yes, No}
use Rattle.gh_top.specs.QuestionReplies.{IsReplyTo}
use Rattle.gh_top.proofs.HeadlineLemmas.{both_ok}
use Rattle.gh_top.proofs.QuestionLemmas.{entailed_report, failing_reply}
use Rattle.gh_top.proofs.entail.decided.Goals as goal

pub entailed-requires : goal.entailed-requires
entailed-requires c =
    let answer : IsAnswer (question_of c.args.asked.now.question) (Yes c.in-Yes.section) =
    rw c.in-Yes.is at c.in_ok-section.ensures in
    answer.1.spelled

pub returns-in-Yes : goal.returns-in-Yes
returns-in-Yes c =
    let q = question_of c.args.asked.now.question in
    let answer : IsAnswer q (Yes c.in-Yes.section) = rw c.in-Yes.is at c.in_ok-section.ensures in
    both_ok c.entailed.result _ _ (λ r. IsReplyTo q r.status r.text) c.entailed.ensures.status c.entailed.ensures.text
    (λ r s t. entailed_report q c.in-Yes.section r.status r.text answer s t)

pub not_entailed-requires : goal.not_entailed-requires
not_entailed-requires c =
    let answer : IsAnswer (question_of c.args.asked.now.question) (No c.in-No.state) =
    rw c.in-No.is at c.in_ok-section.ensures in
    answer

pub returns-in-No : goal.returns-in-No
returns-in-No c =
    let q = question_of c.args.asked.now.question in
    both_ok c.not_entailed.result _ _ (λ r. IsReplyTo q r.status r.text) c.not_entailed.ensures.status
    c.not_entailed.ensures.text (λ r s t. failing_reply q r.status r.text s t)
