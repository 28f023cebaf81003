use Rattle.std.proofs.Common.{◌≡◌, ◌⊎◌, All, take}
use Rattle.gh_sat.specs.Trail.{IsLitFalse}
use Rattle.gh_sat.proofs.status.has_other_open.Given as goal

abbrev pub invariant-loop-lit : goal.invariant-loop-lit
invariant-loop-lit l = All (λ m. (m ≡ l.fn.one) ⊎ IsLitFalse l.trail.steps m) (take l.lit-index l.clause)
