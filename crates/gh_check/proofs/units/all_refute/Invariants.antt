use Rattle.gh_check.proofs.AssumingLemmas.{Goes}
use Rattle.gh_check.proofs.units.all_refute.Given as goal

abbrev pub invariant-loop-lit : goal.invariant-loop-lit
invariant-loop-lit l = Goes l.fn.search l.lits l.lit-index l.search
