use Rattle.std.proofs.Common.{◌+◌}
use Rattle.gh_path.specs.Routes.{weights, onward_weight, AreToCome}
use Rattle.std.proofs.Common.{List}
use Rattle.gh_path.specs.Paths.{Way}
use Rattle.gh_path.proofs.route.Route.arrive.Given as goal

abbrev pub invariant-loop-asked : goal.invariant-loop-asked
invariant-loop-asked l =
    (ws : List Way) → AreToCome l.nodes l.initial.self.taken.items l.initial.self.onward ws
    → AreToCome l.nodes l.self.taken.items l.self.onward ws

abbrev pub decreases-loop-asked : goal.decreases-loop-asked
decreases-loop-asked l = weights l.self.taken.items + onward_weight l.self.onward
