use Rattle.std.proofs.Common.{All, take}
use Rattle.gh_sat.specs.Status.{IsSatisfiedOrFalse}
use Rattle.gh_sat.proofs.needed.first_needed.Given as goal

abbrev pub invariant-loop-clause : goal.invariant-loop-clause
invariant-loop-clause l = All (IsSatisfiedOrFalse l.trail.steps) (take l.clause-index l.clauses)
