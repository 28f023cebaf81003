use Rattle.std.proofs.Common.{◌-◌, length}
use Rattle.gh_session.proofs.Cutting.{IsCutAt}
use Rattle.gh_session.proofs.lines.first_part.Given as goal

abbrev pub invariant-loop-end : goal.invariant-loop-end
invariant-loop-end l = IsCutAt l.text l.end l.lines

abbrev pub decreases-loop-end : goal.decreases-loop-end
decreases-loop-end l = length l.text - l.end
