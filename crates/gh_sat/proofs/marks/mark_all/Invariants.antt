use Rattle.std.proofs.Common.{take}
use Rattle.gh_sat.specs.Learn.{marks_of, AllMarked, AreMarks, MarksMore}
use Rattle.gh_sat.proofs.marks.mark_all.Given as goal

abbrev pub invariant-loop-lit : goal.invariant-loop-lit
invariant-loop-lit l = record {
  marks : AreMarks l.trail.steps (marks_of l.marks);
  all : AllMarked l.trail.steps (marks_of l.marks) (take l.lit-index l.clause);
  more : MarksMore l.trail.steps (take l.lit-index l.clause) (marks_of l.initial.marks) (marks_of l.marks);
}
