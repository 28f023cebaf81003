-- What is left of a heap without the cells of some places.
use Rattle.std.specs.Prelude.{ℕ, List, [], ◌∷◌}
use Rattle.std.specs.FinMap.{remove}
use Rattle.gh_assert.specs.Heaps.{Heap}

abbrev pub left : Heap → List ℕ → Heap
left h [] = h
left h (p ∷ ps) = left (remove h p) ps
