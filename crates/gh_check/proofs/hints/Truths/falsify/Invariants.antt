use Rattle.std.proofs.Common.{◌≡◌, map, take}
use Rattle.gh_base.specs.Atoms.{opposite}
use Rattle.gh_check.specs.Truths.{IsConsistent}
use Rattle.gh_check.proofs.hints.Truths.falsify.Given as goal

abbrev pub invariant-loop-lit : goal.invariant-loop-lit
invariant-loop-lit l = record {
  sizes : l.self.sizes ≡ l.fn.self.sizes;
  set : l.self.lits ≡ map opposite (take l.lit-index l.lits);
  consistent : IsConsistent l.self.lits;
}
