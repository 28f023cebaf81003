use Rattle.gh_machine.proofs.Kept.{targets_apart, targets_listed, popped_lists}
use Rattle.gh_machine.proofs.step.pop.Goals as goal

pub assign_from-requires-clause-distinct : goal.assign_from-requires-clause-distinct
assign_from-requires-clause-distinct c =
    targets_apart c.requires.made.0 c.args.config.now c.pop.new.self.items c.in-Some.caller
    c.targets_of-targets.result.now c.requires.made.1 c.in-Some.ensures.items c.targets_of-targets.ensures

pub assign_from-requires-clause-listed : goal.assign_from-requires-clause-listed
assign_from-requires-clause-listed c =
    targets_listed c.requires.made.0 c.args.config.now c.pop.new.self.items c.in-Some.caller
    c.targets_of-targets.result.now c.requires.made.1 c.in-Some.ensures.items c.targets_of-targets.ensures

pub returns-clause-lists : goal.returns-clause-lists
returns-clause-lists c =
    popped_lists c.requires.made.0 c.args.config.now c.pop.new.self.items c.in-Some.caller c.assign_from.new.store
    c.advance.new.self c.requires.made.1 c.in-Some.ensures.items c.assign_from.ensures.names
