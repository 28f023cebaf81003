-- Cells of a heap, against terms.
use Rattle.std.specs.Prelude.{ℕ, ◌<◌, ◌≤◌, ◌≡◌, Bool, true, Some}
use Rattle.std.specs.FinMap.{get, len}
use Rattle.gh_base.specs.Meaning.{Interpretation}
use Rattle.gh_assert.specs.Heaps.{Heap}
use Rattle.gh_model.specs.BuiltTraces.{cells_below}
use Rattle.gh_small.specs.Fewer.{is_allocated}
use Rattle.gh_small.specs.Leaders.{counted, allocated_classes}

-- a heap with a cell at each number below n that passes a test has as many cells as there are such numbers
abbrev pub CellsAreCounted : Type 0
CellsAreCounted = (stands : ℕ → Bool) (to : ℕ → ℕ) (n : ℕ) → len (cells_below stands to n) ≡ counted stands n

-- where terms have values, those of one value are of one class, and there is a cell at each allocated term's value,
-- there are no more allocated classes than cells
abbrev pub ClassesAreCells : Type 0
ClassesAreCells =
    (m : Interpretation) (at : ℕ → ℕ) (n : ℕ) (h : Heap)
    → ((t u : ℕ) → t < n → u < n → at t ≡ at u → m.class t ≡ m.class u)
    → ((t : ℕ) → t < n → m.table (is_allocated t) ≡ true → (v : ℕ) × (get h (at t) ≡ Some v))
    → allocated_classes m n ≤ len h
