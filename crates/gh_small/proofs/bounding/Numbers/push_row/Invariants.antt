use Rattle.std.proofs.Common.{◌≡◌}
use Rattle.gh_small.specs.Fewer.{each, counter_clauses}
use Rattle.gh_reduce.specs.Growth.{with_clauses}
use Rattle.gh_small.proofs.bounding.Numbers.push_row.Given as goal

abbrev pub invariant-loop-j : goal.invariant-loop-j
invariant-loop-j l = record {
  ground : l.ground
      ≡ with_clauses l.initial.ground (each l.j (counter_clauses l.fn.self.terms l.fn.self.first l.fn.self.cells l.t));
}
