use Rattle.std.proofs.Common.{◌≤◌}
use Rattle.gh_top.proofs.SessionLemmas.{GoesOn}
use Rattle.gh_top.proofs.session.answers.Given as goal

abbrev pub invariant-loop-place : goal.invariant-loop-place
invariant-loop-place l = record {
  goes : GoesOn l.edits.head l.edits.edits.items l.place l.number l.session l.text;
  count : l.number ≤ l.place;
}
