use Rattle.gh_cc.proofs.KeyLemmas.{AreFirst}
use Rattle.gh_cc.proofs.keys.sorted.Given as goal

abbrev pub invariant-loop-lit : goal.invariant-loop-lit
invariant-loop-lit l = AreFirst l.sizes l.partition.links l.lits l.positive l.keys.items l.lit-index
