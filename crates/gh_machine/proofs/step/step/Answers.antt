use Rattle.std.proofs.Common.{ap, ◌∙◌, refl}
use Rattle.gh_ast.specs.Plain.{program_of, statement_of}
use Rattle.gh_ast.specs.Plain as plain
use Rattle.gh_ast.proofs.PlainLemmas.{statement_of-Set, statement_of-New}
use Rattle.gh_machine.proofs.Kept.{assigns_listed}
use Rattle.gh_machine.proofs.Made.{made_next, made_each, made_always, made_result, made_popped}
use Rattle.gh_machine.proofs.step.step.Goals as goal

pub pop-requires : goal.pop-requires
pop-requires c = record { made = ((program_of c.args.typed.now), c.requires.made) }

pub returns-in_default-clause-made : goal.returns-in_default-clause-made
returns-in_default-clause-made c =
    made_popped (program_of c.args.typed.now) c.pop.result c.args.config.now c.pop.new.config c.requires.made
    c.in_default.ensures c.pop.ensures.popped c.pop.ensures.lists

pub set_variable-requires-clause-listed : goal.set_variable-requires-clause-listed
set_variable-requires-clause-listed c =
    assigns_listed (program_of c.args.typed.now) c.args.config.now c.in-Some.statement.now _
    (plain.set c.in-Set.target c.in-Set.value) c.in-Set.target.name c.requires.made c.in-Some.ensures
    (ap statement_of c.in-Set.is ∙ statement_of-Set c.in-Set.target c.in-Set.value) refl

pub make_cell-requires-clause-listed : goal.make_cell-requires-clause-listed
make_cell-requires-clause-listed c =
    assigns_listed (program_of c.args.typed.now) c.args.config.now c.in-Some.statement.now _ (plain.new c.in-New.target)
    c.in-New.target.name c.requires.made c.in-Some.ensures
    (ap statement_of c.in-New.is ∙ statement_of-New c.in-New.target) refl

pub give-requires-clause-made : goal.give-requires-clause-made
give-requires-clause-made c = ((program_of c.args.typed.now), c.requires.made)

pub returns-in-Set-clause-made : goal.returns-in-Set-clause-made
returns-in-Set-clause-made c =
    made_next (program_of c.args.typed.now) c.args.choice.now c.set_variable.result c.args.config.now
    c.set_variable.new.config c.requires.made
    (c.set_variable.ensures.next (program_of c.args.typed.now) c.args.choice.now) c.set_variable.ensures.lists

pub returns-in-Free-clause-made : goal.returns-in-Free-clause-made
returns-in-Free-clause-made c =
    made_next (program_of c.args.typed.now) c.args.choice.now c.free_cell.result c.args.config.now
    c.free_cell.new.config c.requires.made (c.free_cell.ensures.next (program_of c.args.typed.now) c.args.choice.now)
    c.free_cell.ensures.lists

pub returns-in-New-clause-made : goal.returns-in-New-clause-made
returns-in-New-clause-made c =
    made_each (program_of c.args.typed.now) c.args.choice.now c.make_cell.result c.args.config.now
    c.make_cell.new.config c.requires.made c.make_cell.ensures.next c.make_cell.ensures.err c.make_cell.ensures.lists

pub returns-in-Write-clause-made : goal.returns-in-Write-clause-made
returns-in-Write-clause-made c =
    made_always (program_of c.args.typed.now) c.args.choice.now c.write_cell.result c.args.config.now
    c.write_cell.new.config c.requires.made c.write_cell.ensures.next c.write_cell.ensures.err
    c.write_cell.ensures.lists

pub returns-in-Call-clause-made : goal.returns-in-Call-clause-made
returns-in-Call-clause-made c =
    made_result (program_of c.args.typed.now) c.args.choice.now c.call.result c.args.config.now c.call.new.config
    c.requires.made c.call.ensures.next c.call.ensures.err c.call.ensures.lists

pub returns-in-If-clause-made : goal.returns-in-If-clause-made
returns-in-If-clause-made c =
    made_always (program_of c.args.typed.now) c.args.choice.now c.branch-config.result c.args.config.now
    c.branch-config.new.config c.requires.made c.branch-config.ensures.next c.branch-config.ensures.err
    c.branch-config.ensures.lists

pub returns-in-While-clause-made : goal.returns-in-While-clause-made
returns-in-While-clause-made c =
    made_always (program_of c.args.typed.now) c.args.choice.now c.turn.result c.args.config.now c.turn.new.config
    c.requires.made c.turn.ensures.next c.turn.ensures.err c.turn.ensures.lists

pub returns-in-Return-clause-made : goal.returns-in-Return-clause-made
returns-in-Return-clause-made c =
    made_always (program_of c.args.typed.now) c.args.choice.now c.give.result c.args.config.now c.give.new.config
    c.requires.made c.give.ensures.next c.give.ensures.err c.give.ensures.lists
