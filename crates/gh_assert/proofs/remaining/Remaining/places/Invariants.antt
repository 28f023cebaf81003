use Rattle.std.proofs.Common.{◌≡◌, take, map}
use Rattle.gh_assert.proofs.Marks.{marked_cells}
use Rattle.gh_assert.proofs.remaining.Remaining.places.Given as goal

abbrev pub invariant-loop-i : goal.invariant-loop-i
invariant-loop-i l =
    l.places.items ≡ map (λ c. c.at)
    (marked_cells (take l.i l.self-inside.cells.now) (take l.i l.self-inside.taken.items))
