use Rattle.std.proofs.Common.{◌≡◌, length, take}
use Rattle.gh_sat.proofs.trail.Trail.erase.Given as goal

abbrev pub invariant-loop-self : goal.invariant-loop-self
invariant-loop-self l = record {
  sizes : l.self.sizes ≡ l.initial.self.sizes;
  least : take l.fn.start l.self.steps ≡ take l.fn.start l.initial.self.steps;
}

abbrev pub decreases-loop-self : goal.decreases-loop-self
decreases-loop-self l = length l.self.steps
