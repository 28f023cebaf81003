use Rattle.std.proofs.Common.{sym}
use Rattle.gh_symb.proofs.walker.Walker.walk_invariant.Goals as goal

pub returns-clause-terms : goal.returns-clause-terms
returns-clause-terms c = let found = c.while_of-round.ensures in rw (found.1, sym found.2.invariant) c.walk.ensures
