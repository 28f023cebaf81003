use Rattle.gh_symb.proofs.ask.start_assertion.Goals as goal

pub while_of-requires : goal.while_of-requires
while_of-requires c = rw c.in-Loop.is at c.requires

pub returns-in-Loop : goal.returns-in-Loop
returns-in-Loop c = let found = c.while_of.ensures in rw (c.in-Loop.is, found.1) found.2.invariant
