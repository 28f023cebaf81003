use Rattle.gh_smt.proofs.writing.put_declared.Goals as goal

pub returns-in_ok-put_around-in-Definition : goal.returns-in_ok-put_around-in-Definition
returns-in_ok-put_around-in-Definition c = rw c.in-Definition.is c.in_ok-put_around-in-Definition.ensures
