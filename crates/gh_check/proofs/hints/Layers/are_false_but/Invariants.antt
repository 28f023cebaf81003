use Rattle.std.proofs.Common.{◌≡◌, ◌⊎◌, All, take}
use Rattle.std.specs.Prelude.{Contains}
use Rattle.gh_base.specs.Atoms.{opposite}
use Rattle.gh_check.proofs.hints.Layers.are_false_but.Given as goal

abbrev pub invariant-loop-lit : goal.invariant-loop-lit
invariant-loop-lit l = All (λ m. (m ≡ l.one) ⊎ Contains l.self.lits (opposite m)) (take l.lit-index l.clause)
