use Rattle.std.proofs.Common.{take}
use Rattle.gh_sat.specs.Trail.{IsFalseIn}
use Rattle.gh_sat.proofs.status.first_open.Given as goal

abbrev pub invariant-loop-lit : goal.invariant-loop-lit
invariant-loop-lit l = IsFalseIn l.trail.steps (take l.lit-index l.clause)
