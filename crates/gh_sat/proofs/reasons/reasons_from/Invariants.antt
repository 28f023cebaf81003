use Rattle.std.proofs.Common.{◌≡◌, ◌++◌, drop}
use Rattle.gh_sat.specs.Learn.{reasons_of}
use Rattle.gh_sat.proofs.reasons.reasons_from.Given as goal

abbrev pub invariant-loop-place : goal.invariant-loop-place
invariant-loop-place l =
    l.reasons.items ++ reasons_of l.marks.round (drop l.place l.marks.stamps.items) (drop l.place l.trail.steps)
    ≡ reasons_of l.marks.round (drop l.from l.marks.stamps.items) (drop l.from l.trail.steps)
