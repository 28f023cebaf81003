use Rattle.std.proofs.Common.{◌≡◌, take}
use Rattle.gh_cc.specs.Lemma.{AreNegatedClasses}
use Rattle.gh_cc.proofs.lemma.join_negated.Given as goal

abbrev pub invariant-loop-l : goal.invariant-loop-l
invariant-loop-l l = record {
  terms : l.partition.terms ≡ l.initial.partition.terms;
  classes : AreNegatedClasses l.lits (take l.l-index l.lits) l.partition;
}
