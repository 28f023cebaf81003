use Rattle.std.proofs.Common.{sym, ◌∙◌, ap, Some, true, false}
use Rattle.gh_ast.specs.Plain.{statements_view, block_of, cond_of}
use Rattle.gh_ast.proofs.PlainLemmas.{part_of-statements}
use Rattle.gh_machine.proofs.Kept.{way_moves}
use Rattle.gh_machine.proofs.step.branch.Goals as goal

pub returns-in_ok-replace-in-Some-true-clause-next : goal.returns-in_ok-replace-in-Some-true-clause-next
returns-in_ok-replace-in-Some-true-clause-next c =
    way_moves c.args.config.now (cond_of c.args.test.now) (block_of c.args.taken.now) (block_of c.args.otherwise.now)
    true c.as_slice.result.now c.replace.new.self c.requires.comes
    (sym c.in-Some-true.ensures ∙ ap Some c.in-Some-true.field-0-test)
    (ap statements_view c.as_slice.ensures.value ∙ sym (part_of-statements c.args.taken.now))
    c.in_ok-replace-in-Some-true.ensures.ok

pub returns-in_ok-replace-in-Some-false-clause-next : goal.returns-in_ok-replace-in-Some-false-clause-next
returns-in_ok-replace-in-Some-false-clause-next c =
    way_moves c.args.config.now (cond_of c.args.test.now) (block_of c.args.taken.now) (block_of c.args.otherwise.now)
    false c.as_slice-in-Some-false.result.now c.replace-in-Some-false.new.self c.requires.comes
    (sym c.in-Some-false.ensures ∙ ap Some c.in-Some-false.field-0-test)
    (ap statements_view c.as_slice-in-Some-false.ensures.value ∙ sym (part_of-statements c.args.otherwise.now))
    c.in_ok-replace-in-Some-false.ensures.ok
