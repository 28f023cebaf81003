-- The heap of a structure.
use Rattle.std.specs.Prelude.{ℕ, List, [], ◌∷◌, Bool, cond}
use Rattle.std.specs.FinMap.{empty, insert}
use Rattle.gh_assert.specs.Heaps.{Heap}
use Rattle.gh_model.specs.Structures.{HeapStructure}

-- the first value that passes a test, or 0
abbrev pub first : (ℕ → Bool) → List ℕ → ℕ
first p [] = 0
first p (v ∷ vs) = cond (p v) v (first p vs)

-- a cell at each of the places that is allocated, with the first value of V that it hops to
abbrev pub cells_at : List ℕ → HeapStructure → List ℕ → Heap
cells_at V m [] = empty
cells_at V m (x ∷ xs) = cond (m.alloc x) (insert (cells_at V m xs) x (first (m.hop x) V)) (cells_at V m xs)

-- the built heap of a structure: its cells at the values of V
abbrev pub built : List ℕ → HeapStructure → Heap
built V m = cells_at V m V
