use Rattle.std.proofs.Common.{◌≡◌, take}
use Rattle.gh_sat.specs.Theory.{lits_of}
use Rattle.gh_ground.proofs.solver.trail_lits.Given as goal

abbrev pub invariant-loop-step : goal.invariant-loop-step
invariant-loop-step l = l.lits.items ≡ lits_of (take l.step-index l.steps)
