use Rattle.std.proofs.Common.{◌≡◌, List, vec_len, []}
use Rattle.gh_path.specs.Paths.{Way}
use Rattle.gh_path.specs.Routes.{AreBehind, weights}
use Rattle.gh_path.specs.declared.node.Node.{Node}
use Rattle.gh_path.proofs.route.Route.turn_back.Given as goal

abbrev pub invariant-loop-last : goal.invariant-loop-last
invariant-loop-last l = record {
  behind : (nodes : List Node) (ws : List Way) → AreBehind nodes [] l.initial.self.taken.items ws
      → AreBehind nodes [] l.self.taken.items ws;
  weighs : weights l.self.taken.items ≡ weights l.initial.self.taken.items;
}

abbrev pub decreases-loop-last : goal.decreases-loop-last
decreases-loop-last l = vec_len l.self.taken
