use Rattle.std.proofs.Common.{refl}
use Rattle.gh_machine.proofs.Kept.{new_moves}
use Rattle.gh_machine.proofs.step.make_cell.Goals as goal

pub returns-clause-next : goal.returns-clause-next
returns-clause-next c =
    new_moves c.args.config.now c.args.target.now c.args.choice.now c.put.new.self c.set.new.self c.advance.new.self
    c.requires.comes (c.if-not-is_free.ensures.0 refl).0 (c.if-not-is_free.ensures.0 refl).1 c.in_ok-put.ensures.ok
    c.set.ensures c.advance.ensures
