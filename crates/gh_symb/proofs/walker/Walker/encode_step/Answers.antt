use Rattle.gh_symb.proofs.walker.Walker.encode_step.Goals as goal

pub encode_called-requires-clause-callee : goal.encode_called-requires-clause-callee
encode_called-requires-clause-callee c = rw c.in-Call.is at c.requires.step

pub encode_looped-requires-clause-round : goal.encode_looped-requires-clause-round
encode_looped-requires-clause-round c = rw c.in-Loop.is at c.requires.step
