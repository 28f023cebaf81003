use Rattle.std.proofs.Common.{length, arith, ap, ◌∙◌}
use Rattle.gh_top.proofs.SessionLemmas.{goes_answered, goes_out}
use Rattle.gh_top.proofs.session.answers.Goals as goal

pub loop-place-preserved : goal.loop-place-preserved
loop-place-preserved c =
    let es = c.args.edits.now.edits.items in
    let here = c.deref-edit-items.ensures.value in
    record {
      goes = goes_answered c.args.edits.now.head es c.loop-place.place c.loop-place.number c.in_ok-answer.answer.decided
          c.edit-item.result c.loop-place.session c.answer_on.new.session c.loop-place.text c.bytes.result.now
          c.in_ok-answer.answer.text c.push_answer.new.text (omega (arith, c.loop-place-test.true, ap length here))
          (rw here at c.edit-item.is) c.if-not-edit.false (c.bytes.ensures ∙ c.in_ok-whole.ensures)
          c.in_ok-answer.ensures
          c.in_ok-push_answer.ensures c.loop-place.invariant.goes;
      count = omega (arith, c.loop-place.invariant.count);
    }

pub returns : goal.returns
returns c =
    let here = c.deref-edit-items.ensures.value in
    goes_out c.args.edits.now.head c.args.edits.now.edits.items c.loop-place.place c.loop-place.number
    c.loop-place.session c.loop-place.text (omega (arith, c.loop-place-test.false, ap length here))
    c.loop-place.invariant.goes
