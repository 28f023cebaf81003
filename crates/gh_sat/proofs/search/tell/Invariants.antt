use Rattle.std.proofs.Common.{◌≡◌, ◌≤◌, ◌-◌, take, length}
use Rattle.gh_sat.specs.Theory.{lits_of}
use Rattle.gh_sat.proofs.search.tell.Given as goal

abbrev pub invariant-loop-place : goal.invariant-loop-place
invariant-loop-place g l = record {
  within : l.place ≤ length l.steps;
  told : g.T.Theory.asserted l.theory ≡ lits_of (take l.place l.steps);
  sizes : g.T.Theory.sizes l.theory ≡ l.search.sizes;
}

abbrev pub decreases-loop-place : goal.decreases-loop-place
decreases-loop-place g l = length l.steps - l.place
