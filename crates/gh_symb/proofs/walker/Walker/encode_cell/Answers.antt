use Rattle.gh_symb.proofs.walker.Walker.encode_cell.Goals as goal

pub returns-in_ok-step-in-New-clause-done : goal.returns-in_ok-step-in-New-clause-done
returns-in_ok-step-in-New-clause-done c = λ changes P proc. rw c.in-New.is c.in_ok-step-in-New.ensures.done
