use Rattle.gh_ast.specs.Plain.{program_of}
use Rattle.gh_top.proofs.SessionLemmas.{answer_refused, answer_decided}
use Rattle.gh_top.proofs.session.answer_on.Goals as goal

pub returns-in-Err-Refused : goal.returns-in-Err-Refused
returns-in-Err-Refused c =
    answer_refused c.args.text.now c.in-Err-Refused.refusal _ _ _
    (rw c.in-Err-Refused.field-0-is at c.in-Err-Refused.ensures.refused)
    c.in_ok-refused_answer-in-Err-Refused.ensures.decided c.in_ok-refused_answer-in-Err-Refused.ensures.text

pub returns-in-Err-Refused-new : goal.returns-in-Err-Refused-new
returns-in-Err-Refused-new c =
    let late = rw c.in-Err-Refused-new.field-0-is at c.in-Err-Refused-new.ensures.refused in
    answer_refused c.args.text.now c.in-Err-Refused-new.refusal _ _ _ (late c.args.text.now c.in-Ok.ensures.text)
    c.in_ok-refused_answer-in-Err-Refused-new.ensures.decided c.in_ok-refused_answer-in-Err-Refused-new.ensures.text

pub returns : goal.returns
returns c =
    answer_decided c.args.text.now (program_of c.in-Ok.typed) _ _ _ _ c.in-Ok.ensures.text c.in-Ok-new.ensures.admitted
    (rw c.in-Ok-new.ensures.same at c.in_ok-verdict_on.ensures)
