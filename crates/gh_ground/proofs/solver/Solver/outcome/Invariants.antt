use Rattle.gh_ground.specs.Kept.{KeepsLines}
use Rattle.gh_ground.proofs.MissingLemmas.{unlisted}
use Rattle.gh_ground.proofs.solver.Solver.outcome.Given as goal

abbrev pub invariant-loop-conflict : goal.invariant-loop-conflict
invariant-loop-conflict l = KeepsLines l.fn.self.search l.fn.self.lines l.self.search l.self.lines

abbrev pub decreases-loop-conflict : goal.decreases-loop-conflict
decreases-loop-conflict l = unlisted l.self.search.sizes l.self.lines
