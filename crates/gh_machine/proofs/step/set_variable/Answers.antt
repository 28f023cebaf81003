use Rattle.gh_machine.proofs.Kept.{set_moves}
use Rattle.gh_machine.proofs.step.set_variable.Goals as goal

pub returns-clause-next : goal.returns-clause-next
returns-clause-next c =
    set_moves c.args.config.now c.args.target.now c.args.value.now c.set.new.self c.advance.new.self c.in-Some.value
    c.requires.comes c.in-Some.ensures c.set.ensures c.advance.ensures
