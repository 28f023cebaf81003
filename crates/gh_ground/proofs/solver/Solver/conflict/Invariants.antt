use Rattle.gh_sat.specs.Measure.{left}
use Rattle.gh_ground.specs.Kept.{IsAnswered, KeepsLines}
use Rattle.gh_ground.proofs.solver.Solver.conflict.Given as goal

abbrev pub invariant-loop-next : goal.invariant-loop-next
invariant-loop-next l = record {
  answered : IsAnswered l.self.search l.found;
  keeps : KeepsLines l.fn.self.search l.fn.self.lines l.self.search l.self.lines;
}

abbrev pub decreases-loop-next : goal.decreases-loop-next
decreases-loop-next l = left l.self.search.sizes l.self.search.trail
