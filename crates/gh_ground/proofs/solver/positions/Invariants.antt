use Rattle.std.proofs.Common.{◌≡◌, ◌+◌, map, take}
use Rattle.gh_ground.proofs.solver.positions.Given as goal

abbrev pub invariant-loop-number : goal.invariant-loop-number
invariant-loop-number l = l.positions.items ≡ map (λ k. k + 1) (take l.number-index l.numbers)
