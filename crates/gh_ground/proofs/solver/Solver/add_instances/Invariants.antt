use Rattle.std.proofs.Common.{◌≡◌, All, Contains, take}
use Rattle.gh_log.specs.Lines as line
use Rattle.gh_ground.specs.Kept.{KeepsLines}
use Rattle.gh_ground.proofs.solver.Solver.add_instances.Given as goal

abbrev pub invariant-loop-name : goal.invariant-loop-name
invariant-loop-name l = record {
  sizes : l.self.search.sizes ≡ l.fn.self.search.sizes;
  added : All (λ n. Contains l.self.lines (line.Axiom n)) (take l.name-index l.names);
  keeps : KeepsLines l.fn.self.search l.fn.self.lines l.self.search l.self.lines;
}
