use Rattle.std.proofs.Common.{sym, ◌∙◌, ap, is_some}
use Rattle.gh_machine.proofs.Kept.{free_moves}
use Rattle.gh_machine.proofs.step.free_cell.Goals as goal

pub returns-clause-next : goal.returns-clause-next
returns-clause-next c =
    free_moves c.args.config.now c.args.at.now c.take.new.self c.advance.new.self c.value_of-place.result
    c.requires.comes c.value_of-place.ensures (ap is_some (sym c.get.ensures) ∙ c.if-is_none.ensures)
    c.take.ensures.rest c.advance.ensures
