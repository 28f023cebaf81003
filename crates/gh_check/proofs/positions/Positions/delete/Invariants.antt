use Rattle.gh_check.proofs.KeptLemmas.{Goes}
use Rattle.gh_check.proofs.positions.Positions.delete.Given as goal

abbrev pub invariant-loop-position : goal.invariant-loop-position
invariant-loop-position l = Goes l.fn.self l.self l.positions l.position-index
