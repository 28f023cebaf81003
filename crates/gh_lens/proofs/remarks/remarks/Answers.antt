use Rattle.std.proofs.Common.{◌∙◌, map, ap, subst}
use Rattle.gh_ast.specs.Plain.{program_of}
use Rattle.gh_lens.specs.Assertions.{subjects, AreRemarks}
use Rattle.gh_lens.specs.Stated.{subject_of}
use Rattle.gh_lens.proofs.Meetings.{remarks_next, remarks_all}
use Rattle.gh_lens.proofs.remarks.remarks.Goals as goal

pub loop-procedure-preserved : goal.loop-procedure-preserved
loop-procedure-preserved c =
    remarks_next c.as_slice-procedure-items.result.now c.loop-procedure.procedure-index c.procedure-item.result
    c.loop-procedure.all.items c.push_remarks.new.remarks.items (map subject_of c.as_slice.result.now)
    c.loop-procedure-test.true c.procedure-item.is c.loop-procedure.invariant c.in_ok-push_remarks.ensures
    (ap (map subject_of) c.as_slice.ensures.value ∙ c.in_ok-stated.ensures)

pub returns : goal.returns
returns c =
    subst (λ p. AreRemarks (subjects (program_of p)) c.loop-procedure.all.items) c.program-program.ensures.same
    (remarks_all c.program-program.result.now c.as_slice-procedure-items.result.now c.loop-procedure.procedure-index
    c.loop-procedure.all.items c.as_slice-procedure-items.ensures.value c.loop-procedure-test.false
    c.loop-procedure.invariant)
