-- Cells as they are kept: a list with ascending places, and the places that are marked in it.
use Rattle.std.specs.Prelude.{◌≡◌, ◌≢◌, ℕ, ◌<◌, ◌≤◌, List, [], ◌∷◌, map, Bool, false, not, ◌&&◌, ◌||◌, ◌==◌, All, T}
use Rattle.std.specs.Prelude.{length, slice_index_or}
use Rattle.std.specs.Ordering.{nat_cmp}
use Rattle.std.specs.FinMap.{is_sorted, from_sorted, retain_keys}
use Rattle.gh_assert.specs.declared.heap.Cell.{Cell}
use Rattle.gh_assert.specs.Heaps.{Heap}

abbrev pub pair_of : Cell → ℕ × ℕ
pair_of c = (c.at, c.to)

abbrev pub pairs : List Cell → List (ℕ × ℕ)
pairs cells = map pair_of cells

-- ascending places, none of them null
pub record AreCells (cells : List Cell) : Type 0 where
  pub ascending : T (is_sorted nat_cmp (pairs cells))
  pub not_null : All (λ c. c.at ≢ 0) cells

abbrev pub heap_of : List Cell → Heap
heap_of cells = from_sorted (pairs cells)

-- each cell before the index i has a place below `at`
abbrev pub AreBelow : List Cell → ℕ → ℕ → Type 0
AreBelow cells i at = (k : ℕ) (d : Cell) → k < i → (slice_index_or cells k d).at < at

-- the cell of the place stands at i
pub record IsHere (cells : List Cell) (at i : ℕ) : Type 0 where
  pub within : i < length cells
  pub here : (d : Cell) → (slice_index_or cells i d).at ≡ at
  pub below : AreBelow cells i at

-- there is no cell of the place, and it would stand at i
pub record IsGap (cells : List Cell) (at i : ℕ) : Type 0 where
  pub within : i ≤ length cells
  pub above : (d : Cell) → i < length cells → at < (slice_index_or cells i d).at
  pub below : AreBelow cells i at

-- the cell of the place is marked
abbrev pub is_marked : List Cell → List Bool → ℕ → Bool
is_marked [] ms q = false
is_marked (c ∷ cs) [] q = false
is_marked (c ∷ cs) (m ∷ ms) q = (m && (q == c.at)) || is_marked cs ms q

-- the heap of the cells that aren't marked
abbrev pub unmarked : List Cell → List Bool → Heap
unmarked cells marks = retain_keys (heap_of cells) (λ q. not (is_marked cells marks q))
