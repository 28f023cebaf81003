use Rattle.std.proofs.Common.{◌≤◌, ◌-◌, ℕ, length}
use Rattle.gh_base.specs.Atoms.{count_of}
use Rattle.gh_sat.specs.Watch.{AreGuarded}
use Rattle.gh_sat.specs.Propagation.{Propagates}
use Rattle.gh_sat.proofs.propagation.propagate_from.Given as goal

abbrev pub invariant-loop-head : goal.invariant-loop-head
invariant-loop-head l = record {
  propagates : Propagates l.database l.fn.level l.initial.trail l.trail;
  within : l.head ≤ length l.trail.steps;
  guarded : (looked : ℕ) → AreGuarded l.database.clauses.now l.initial.trail.steps l.initial.head looked
      → AreGuarded l.database.clauses.now l.trail.steps l.head looked;
}

abbrev pub decreases-loop-head : goal.decreases-loop-head
decreases-loop-head l = count_of l.trail.sizes - l.head
