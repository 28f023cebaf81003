use Rattle.std.proofs.Common.{subst}
use Rattle.gh_sat.specs.Trail.{Line, IsAssignmentOf}
use Rattle.gh_sat.proofs.TrailLemmas.{assignment_is}
use Rattle.gh_sat.proofs.trail.Trail.assignment.Goals as goal

pub returns : goal.returns
returns c =
    subst (λ (t : Line). IsAssignmentOf c.self.inside.values t) c.self.view_is
    (assignment_is c.self.inside.values c.self.inside.steps.items c.self.invariant.0)
