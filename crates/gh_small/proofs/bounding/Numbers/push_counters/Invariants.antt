use Rattle.std.proofs.Common.{◌≡◌}
use Rattle.gh_small.specs.Fewer.{each, counter_row}
use Rattle.gh_reduce.specs.Growth.{with_clauses}
use Rattle.gh_small.proofs.bounding.Numbers.push_counters.Given as goal

abbrev pub invariant-loop-t : goal.invariant-loop-t
invariant-loop-t l = record {
  ground : l.ground
      ≡ with_clauses l.initial.ground (each l.t (counter_row l.fn.self.terms l.fn.self.first l.fn.self.cells));
}
