use Rattle.gh_check.proofs.TruthLemmas.{IsCleared}
use Rattle.gh_check.proofs.hints.erase.Given as goal

abbrev pub invariant-loop-lit : goal.invariant-loop-lit
invariant-loop-lit l = IsCleared l.fn.table l.table l.lits l.lit-index
