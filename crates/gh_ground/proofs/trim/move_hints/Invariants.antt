use Rattle.std.proofs.Common.{◌≡◌, ◌-◌, map, take}
use Rattle.std.specs.Prelude.{slice_index}
use Rattle.gh_ground.proofs.trim.move_hints.Given as goal

abbrev pub invariant-loop-hint : goal.invariant-loop-hint
invariant-loop-hint l = l.moved.items ≡ map (λ h. slice_index l.positions (h - 1)) (take l.hint-index l.hints)
