use Rattle.std.proofs.Common.{take}
use Rattle.gh_ground.specs.Making.{AreGiven, KeepsClasses}
use Rattle.gh_ground.proofs.structures.structure_of.Given as goal

abbrev pub invariant-loop-lit : goal.invariant-loop-lit
invariant-loop-lit l = record {
  keeps : KeepsClasses l.initial.structure l.structure;
  given : AreGiven (take l.lit-index l.lits) l.structure;
}
