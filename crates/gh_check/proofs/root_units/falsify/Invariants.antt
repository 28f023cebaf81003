use Rattle.std.proofs.Common.{◌≡◌, All, map, take}
use Rattle.std.specs.Prelude.{Contains}
use Rattle.gh_base.specs.Atoms.{opposite}
use Rattle.gh_check.specs.Truths.{IsConsistent}
use Rattle.gh_check.proofs.root_units.falsify.Given as goal

abbrev pub invariant-loop-lit : goal.invariant-loop-lit
invariant-loop-lit l = record {
  sizes : l.above.sizes ≡ l.fn.above.sizes;
  set : l.above.lits ≡ map opposite (take l.lit-index l.lits);
  consistent : IsConsistent l.above.lits;
  apart : All (λ m. Contains l.fixed.lits m → ⊥) (take l.lit-index l.lits);
}
