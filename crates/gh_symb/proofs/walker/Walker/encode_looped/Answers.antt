use Rattle.gh_symb.proofs.walker.Walker.encode_looped.Goals as goal

pub returns-clause-done : goal.returns-clause-done
returns-clause-done c =
    let found = c.while_of-round.ensures in
    rw found.1 (c.in_ok-step.ensures.done found.0 found.2)

pub returns-clause-read : goal.returns-clause-read
returns-clause-read c =
    let found = c.while_of-round.ensures in
    rw found.1 (c.in_ok-step.ensures.read found.0 found.2)
