use Rattle.std.proofs.Common.{length}
use Rattle.gh_draw.proofs.Skipping.{SameFile}
use Rattle.gh_draw.proofs.reading.skip.Given as goal

abbrev pub invariant-lines : goal.invariant-lines
invariant-lines l = SameFile l.cursor.text.now l.initial.cursor.text.now

abbrev pub decreases-lines : goal.decreases-lines
decreases-lines l = length l.cursor.text.now
