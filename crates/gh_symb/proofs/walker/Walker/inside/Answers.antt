use Rattle.gh_symb.proofs.walker.Walker.inside.Goals as goal

pub returns : goal.returns
returns c =
    rw (c.new-inside.ensures, c.as_slice.ensures.value, c.as_slice-2.ensures.value, c.in_ok-terms.ensures) at
    c.in_ok-bind_all.ensures
