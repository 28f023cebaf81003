use Rattle.std.proofs.Common.{◌≡◌, ◌<◌, ◌≤◌, ℕ, length}
use Rattle.gh_sat.specs.Learn.{marks_of, AllMarked, IsBounded, AreMarks, ResolvedFrom, AreReached, IsAlone}
use Rattle.gh_sat.proofs.marks.resolve.Given as goal

abbrev pub invariant-loop-marks : goal.invariant-loop-marks
invariant-loop-marks l = record {
  marks : AreMarks l.trail.steps (marks_of l.marks);
  some : 0 < l.marks.waiting;
  bounded : IsBounded (marks_of l.marks);
  round : l.marks.round ≡ l.fn.marks.round;
  start : l.marks.start ≡ l.fn.marks.start;
  long : length l.marks.stamps.items ≡ length l.fn.marks.stamps.items;
  all : AllMarked l.trail.steps (marks_of l.marks) l.conflict;
  resolved : ResolvedFrom l.clauses l.trail.steps (marks_of l.marks) l.marks.end;
  reached : AreReached l.clauses l.trail.steps l.conflict (marks_of l.marks) l.marks.end;
  first : (q : ℕ) → l.marks.end ≤ q → IsAlone l.clauses l.trail.steps l.conflict l.marks.start q → ⊥;
}

abbrev pub decreases-loop-marks : goal.decreases-loop-marks
decreases-loop-marks l = l.marks.end
