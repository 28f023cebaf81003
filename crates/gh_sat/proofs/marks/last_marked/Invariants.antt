use Rattle.std.proofs.Common.{◌≡◌, ℕ, ◌≤◌, ◌<◌, take, drop}
use Rattle.gh_sat.specs.Learn.{marks_of, HasRound, marked}
use Rattle.gh_sat.proofs.marks.last_marked.Given as goal

abbrev pub invariant-loop-i : goal.invariant-loop-i
invariant-loop-i l = record {
  low : l.marks.start ≤ l.i;
  high : l.i ≤ l.marks.end;
  none : (j : ℕ) → l.i ≤ j → j < l.marks.end → HasRound (marks_of l.marks) j → ⊥;
  waiting : l.marks.waiting ≡ marked l.marks.round (drop l.marks.start (take l.i l.marks.stamps.items));
}

abbrev pub decreases-loop-i : goal.decreases-loop-i
decreases-loop-i l = l.i
