use Rattle.gh_sat.specs.Trail.{IsPassed}
use Rattle.gh_sat.proofs.trail.first_free_number.Given as goal

abbrev pub invariant-loop-number : goal.invariant-loop-number
invariant-loop-number l = IsPassed l.values l.number
