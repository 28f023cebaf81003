use Rattle.std.proofs.Common.{All, take}
use Rattle.gh_cc.specs.Lemma.{IsDerived}
use Rattle.gh_cc.proofs.lemma.any_derived.Given as goal

abbrev pub invariant-loop-l : goal.invariant-loop-l
invariant-loop-l l = All (λ k. IsDerived l.sizes l.partition.links l.keyed.lits.now k → ⊥)
    (take l.l-index l.keyed.lits.now)
