use Rattle.std.proofs.Common.{sym, ◌∙◌, ap, is_some}
use Rattle.gh_machine.proofs.Kept.{write_moves}
use Rattle.gh_machine.proofs.step.write_cell.Goals as goal

pub returns-clause-next : goal.returns-clause-next
returns-clause-next c =
    write_moves c.args.config.now c.args.at.now c.args.value.now c.put.new.self c.advance.new.self c.in-Some.value
    c.value_of-place.result c.requires.comes c.in-Some.ensures c.value_of-place.ensures
    (ap is_some (sym c.content.ensures.content) ∙ c.if-is_none.ensures) c.in_ok-put.ensures.ok c.advance.ensures
