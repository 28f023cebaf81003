use Rattle.std.proofs.Common.{All, take}
use Rattle.std.specs.Prelude.{Contains}
use Rattle.gh_base.specs.Atoms.{opposite}
use Rattle.gh_check.proofs.root_units.none_false.Given as goal

abbrev pub invariant-loop-lit : goal.invariant-loop-lit
invariant-loop-lit l = All (λ m. Contains l.told.lits (opposite m) → ⊥) (take l.lit-index l.lits)
