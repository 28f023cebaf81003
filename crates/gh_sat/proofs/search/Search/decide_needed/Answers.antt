use Rattle.std.proofs.Common.{refl, subst}
use Rattle.gh_sat.specs.Status.{AreSatisfied}
use Rattle.gh_sat.proofs.search.Search.decide_needed.Goals as goal

pub returns-in_err-atom-clause-none : goal.returns-in_err-atom-clause-none
returns-in_err-atom-clause-none g c =
    rw c.from_residual.ensures (refl, subst AreSatisfied c.self.view_is c.in_err-atom.ensures.none)
