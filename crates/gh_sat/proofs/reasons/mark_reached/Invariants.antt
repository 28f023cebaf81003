use Rattle.std.proofs.Common.{◌≡◌, length}
use Rattle.gh_sat.specs.Learn.{marks_of, AllMarked, IsBounded, AreMarks, ResolvedFrom}
use Rattle.gh_sat.proofs.reasons.mark_reached.Given as goal

abbrev pub invariant-loop-marks : goal.invariant-loop-marks
invariant-loop-marks l = record {
  marks : AreMarks l.trail.steps (marks_of l.marks);
  bounded : IsBounded (marks_of l.marks);
  start : l.marks.start ≡ 0;
  long : length l.marks.stamps.items ≡ length l.fn.marks.stamps.items;
  all : AllMarked l.trail.steps (marks_of l.marks) l.conflict;
  resolved : ResolvedFrom l.clauses l.trail.steps (marks_of l.marks) l.marks.end;
}

abbrev pub decreases-loop-marks : goal.decreases-loop-marks
decreases-loop-marks l = l.marks.end
