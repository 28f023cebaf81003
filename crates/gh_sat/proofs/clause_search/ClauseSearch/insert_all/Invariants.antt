use Rattle.std.proofs.Common.{◌≡◌, ◌≤◌, ◌-◌, [], take, length}
use Rattle.gh_sat.specs.Trail.{most_clauses}
use Rattle.gh_sat.proofs.clause_search.ClauseSearch.insert_all.Given as goal

abbrev pub invariant-loop-clause : goal.invariant-loop-clause
invariant-loop-clause l = record {
  within : l.number ≤ length l.ground.clauses;
  so_far : l.self ≡ (record {
    sizes = l.ground.sizes;
    clauses = take l.number l.ground.clauses;
    trail = [];
    starts = [];
  });
  few : length l.self.clauses ≤ most_clauses;
}

abbrev pub decreases-loop-clause : goal.decreases-loop-clause
decreases-loop-clause l = length l.ground.clauses - l.number
