use Rattle.std.proofs.Common.{◌<◌, ℕ, drop, length}
use Rattle.gh_sat.specs.Watch.{AreVisited}
use Rattle.gh_sat.specs.Propagation.{Propagates}
use Rattle.gh_sat.proofs.propagation.visit.Given as goal

abbrev pub invariant-loop-j : goal.invariant-loop-j
invariant-loop-j l = record {
  propagates : Propagates l.database l.fn.level l.initial.trail l.trail;
  visited : (head looked : ℕ) → head < length l.initial.trail.steps
      → AreVisited l.database.clauses.now l.initial.trail.steps head looked l.list
      → AreVisited l.database.clauses.now l.trail.steps head looked (drop l.j l.list);
}
