use Rattle.std.proofs.Common.{◌≡◌, ◌∷◌, []}
use Rattle.gh_small.specs.Fewer.{each, leader_clause}
use Rattle.gh_reduce.specs.Growth.{with_clauses}
use Rattle.gh_small.proofs.bounding.Numbers.push_leaders.Given as goal

abbrev pub invariant-loop-t : goal.invariant-loop-t
invariant-loop-t l = record {
  ground : l.ground
      ≡ with_clauses l.initial.ground (each l.t (λ t. leader_clause l.fn.self.first t ∷ []));
}
