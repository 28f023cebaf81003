use Rattle.std.proofs.Common.{sym, ◌∙◌, ap, Some}
use Rattle.gh_ast.specs.Plain.{statements_view, block_of, cond_of}
use Rattle.gh_ast.proofs.PlainLemmas.{part_of-statements}
use Rattle.gh_machine.proofs.Kept.{turn_moves}
use Rattle.gh_machine.proofs.step.turn.Goals as goal

pub returns-in_ok-push-in-Some-true-clause-next : goal.returns-in_ok-push-in-Some-true-clause-next
returns-in_ok-push-in-Some-true-clause-next c =
    turn_moves c.args.config.now (cond_of c.args.test.now) (block_of c.args.body.now) c.as_slice.result.now
    c.push.new.self c.requires.comes (sym c.in-Some-true.ensures ∙ ap Some c.in-Some-true.field-0-test)
    (ap statements_view c.as_slice.ensures.value ∙ sym (part_of-statements c.args.body.now))
    c.in_ok-push-in-Some-true.ensures.ok
