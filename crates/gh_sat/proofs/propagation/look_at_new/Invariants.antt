use Rattle.std.proofs.Common.{◌≤◌, ◌-◌, ℕ, length}
use Rattle.gh_sat.specs.Watch.{AreGuarded}
use Rattle.gh_sat.specs.Propagation.{Propagates}
use Rattle.gh_sat.proofs.propagation.look_at_new.Given as goal

abbrev pub invariant-loop-looked : goal.invariant-loop-looked
invariant-loop-looked l = record {
  propagates : Propagates l.database l.fn.level l.initial.trail l.trail;
  within : l.looked ≤ length l.database.clauses.now;
  guarded : (head : ℕ) → head ≤ length l.initial.trail.steps
      → AreGuarded l.database.clauses.now l.initial.trail.steps head l.initial.looked
      → AreGuarded l.database.clauses.now l.trail.steps head l.looked;
}

abbrev pub decreases-loop-looked : goal.decreases-loop-looked
decreases-loop-looked l = length l.database.clauses.now - l.looked
