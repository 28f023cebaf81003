use Rattle.std.proofs.Common.{take}
use Rattle.gh_ground.specs.Making.{AreClassesOf}
use Rattle.gh_ground.proofs.classes.classes_of.Given as goal

abbrev pub invariant-loop-lit : goal.invariant-loop-lit
invariant-loop-lit l = AreClassesOf l.fn.sizes.terms (take l.lit-index l.lits) l.classes.items
