use Rattle.gh_smt.proofs.reading.take_declared.Goals as goal

pub returns-in-Term : goal.returns-in-Term
returns-in-Term c = rw c.in-Term.is c.take_around.ensures

pub returns-in-Definition : goal.returns-in-Definition
returns-in-Definition c = rw c.in-Definition.is c.take_around-in-Definition.ensures
