use Rattle.std.proofs.Common.{subst}
use Rattle.gh_ast.specs.Questions.{question_of}
use Rattle.gh_entail.specs.Answers.{IsAnswer, FailsIn}
use Rattle.gh_entail.specs.Asked.{IsAskRefusal}
use Rattle.gh_entail.specs.Meaning.{IsEntailed}
use Rattle.gh_entail.specs.declared.admit.AskError.TheVariants.{TypeError}
use Rattle.gh_entail.specs.declared.answer.Entailment.TheVariants.{Yes, No}
use Rattle.gh_lens.specs.Stated.{subject_of}
use Rattle.gh_lens.proofs.Meetings.{none_meets, some_meets, rule_broken}
use Rattle.gh_lens.proofs.remarks.meeting_of.Goals as goal

pub returns-in-Err-TypeError : goal.returns-in-Err-TypeError
returns-in-Err-TypeError c =
    let q = question_of c.in_ok-question.question in
    let broken : IsAskRefusal q (TypeError c.in-Err-TypeError.field-0-0 c.in-Err-TypeError.field-0-1) =
    rw c.in-Err-TypeError.field-0-is at c.in-Err-TypeError.ensures.refused in
    rule_broken (subject_of c.args.stated) q c.in-Err-TypeError.field-0-0 c.in-Err-TypeError.field-0-1
    c.in_ok-question.ensures broken

pub returns-in-Yes : goal.returns-in-Yes
returns-in-Yes c =
    let told : IsAnswer (question_of c.in-Ok.asked.question) (Yes c.in-Yes.field-0) =
    rw c.in-Yes.is at c.in_ok-decide_question.ensures in
    none_meets (subject_of c.args.stated) (question_of c.in_ok-question.question) c.in_ok-question.ensures
    (subst (λ q. IsEntailed (question_of q)) c.in-Ok.ensures.same told.0)

pub returns : goal.returns
returns c =
    let told : IsAnswer (question_of c.in-Ok.asked.question) (No c.in-No.field-0) =
    rw c.in-No.is at c.in_ok-decide_question.ensures in
    some_meets (subject_of c.args.stated) (question_of c.in_ok-question.question) c.in-No.field-0
    c.in_ok-question.ensures (subst (λ q. FailsIn (question_of q) c.in-No.field-0) c.in-Ok.ensures.same told)
