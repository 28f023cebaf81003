use Rattle.gh_symb.proofs.EncodingLemmas.{whole_encoded}
use Rattle.gh_symb.proofs.walker.Walker.ask_check.Goals as goal

pub ask_called-requires : goal.ask_called-requires
ask_called-requires c = rw c.in-CalleeEntry.is at c.requires.1

pub returns-in_ok-asked-in-CalleeEntry-clause-used : goal.returns-in_ok-asked-in-CalleeEntry-clause-used
returns-in_ok-asked-in-CalleeEntry-clause-used c = λ place.
    let on = rw (c.as_slice.ensures.value) at c.in_ok-asked-in-CalleeEntry.ensures.used in
    rw c.in-CalleeEntry.is on

pub returns-in_ok-asked-in-CalleeEntry-clause-ended : goal.returns-in_ok-asked-in-CalleeEntry-clause-ended
returns-in_ok-asked-in-CalleeEntry-clause-ended c = λ place.
    let on = rw (c.as_slice.ensures.value) at c.in_ok-asked-in-CalleeEntry.ensures.ended in
    rw c.in-CalleeEntry.is on

pub returns-in_ok-asked-in-CalleeEntry-clause-read : goal.returns-in_ok-asked-in-CalleeEntry-clause-read
returns-in_ok-asked-in-CalleeEntry-clause-read c = λ place.
    let on = rw (c.as_slice.ensures.value) at c.in_ok-asked-in-CalleeEntry.ensures.read in
    rw c.in-CalleeEntry.is on

pub returns-in_ok-bounds-in-Return-clause-read : goal.returns-in_ok-bounds-in-Return-clause-read
returns-in_ok-bounds-in-Return-clause-read c = λ place.
    let each = rw c.as_slice-gives.ensures.value at c.in_ok-bounds-in-Return.ensures.encode in
    rw c.in-Return.is (whole_encoded c.in_ok-bounds-in-Return.bounds _ each)

-- the loop of a check
pub ask_invariant-requires : goal.ask_invariant-requires
ask_invariant-requires c = rw c.in-LoopEntry.is at c.requires.1

pub ask_invariant-requires-in-LoopEnd : goal.ask_invariant-requires-in-LoopEnd
ask_invariant-requires-in-LoopEnd c = rw c.in-LoopEnd.is at c.requires.1
