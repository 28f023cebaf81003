use Rattle.gh_symb.proofs.walker.Walker.use_step.Goals as goal

pub walk_invariant-requires : goal.walk_invariant-requires
walk_invariant-requires c = rw c.in-Loop.is at c.requires
