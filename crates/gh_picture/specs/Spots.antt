-- Where cells stand: each list in a line of its own.
use Rattle.std.specs.Prelude.{◌≡◌, ◌≢◌, ◌⊎◌, ℕ, suc, ◌+◌, ◌<◌, ◌≤◌, ◌==◌, Bool, false, if◌then◌else◌, List, [], ◌∷◌}
use Rattle.std.specs.Prelude.{◌++◌, Option, Some, None, length, slice_index_or, All}
use Rattle.std.specs.List.{list_any}
use Rattle.std.specs.Option.{option_map}
use Rattle.gh_assert.specs.declared.heap.Cell.{Cell}
use Rattle.gh_assert.specs.declared.store.Entry.{Entry}
use Rattle.gh_picture.specs.declared.layout.Spot.{Spot}

-- the number of the cell of a place
abbrev pub number_in : List Cell → ℕ → Option ℕ
number_in [] at = None
number_in (c ∷ cs) at = if c.at == at then Some 0 else option_map suc (number_in cs at)

abbrev pub no_cell : Cell
no_cell = record { at = 0; to = 0 }

abbrev pub no_spot : Spot
no_spot = record { line = 0; column = 0 }

abbrev pub cell_at : List Cell → ℕ → Cell
cell_at cells i = slice_index_or cells i no_cell

abbrev pub spot_at : List Spot → ℕ → Spot
spot_at spots i = slice_index_or spots i no_spot

-- the content of cell i is the place of cell j
abbrev pub LeadsTo : List Cell → ℕ → ℕ → Type 0
LeadsTo cells i j = (i < length cells) × (number_in cells (cell_at cells i).to ≡ Some j)

abbrev pub right_of : Spot → Spot
right_of s = record s { column = s.column + 1 }

-- t is in an earlier line than s, or in the same line and no later
abbrev pub IsNoLater : Spot → Spot → Type 0
IsNoLater t s = (t.line < s.line) ⊎ ((t.line ≡ s.line) × (t.column ≤ s.column))

-- where the next cell of a list may stand: at the right, or no later, where it is on another list or closes a cycle
abbrev pub MayFollow : Spot → Spot → Type 0
MayFollow s t = (t ≡ right_of s) ⊎ IsNoLater t s

-- a spot for each cell; no two cells share one, lists go on to the right, and each line is one list
pub record AreSpots (cells : List Cell) (spots : List Spot) : Type 0 where
  pub one_each : length spots ≡ length cells
  pub apart : (i j : ℕ) → i < j → j < length cells → spot_at spots i ≢ spot_at spots j
  pub in_lines : (i j : ℕ) → LeadsTo cells i j → MayFollow (spot_at spots i) (spot_at spots j)
  pub lists : (j : ℕ) → j < length cells → 0 < (spot_at spots j).column
      → (i : ℕ) × LeadsTo cells i j × (spot_at spots j ≡ right_of (spot_at spots i))

abbrev pub is_number : ℕ → Option ℕ → Bool
is_number j None = false
is_number j (Some i) = i == j

-- whether a cell leads to the cell j
abbrev pub leads_to : List Cell → ℕ → Cell → Bool
leads_to cells j c = is_number j (number_in cells c.to)

-- whether some cell leads to the cell j
abbrev pub is_led_to : List Cell → ℕ → Bool
is_led_to cells j = list_any (leads_to cells j) cells

-- the numbers of those of some cells, numbered from k, to which no cell leads
abbrev pub heads : List Cell → ℕ → List Cell → List ℕ
heads cells k [] = []
heads cells k (c ∷ cs) = if is_led_to cells k then heads cells (suc k) cs else k ∷ heads cells (suc k) cs

-- the numbers of some cells, numbered from k
abbrev pub numbers : ℕ → List Cell → List ℕ
numbers k [] = []
numbers k (c ∷ cs) = k ∷ numbers (suc k) cs

abbrev pub with_number : Option ℕ → List ℕ → List ℕ
with_number None ns = ns
with_number (Some i) ns = i ∷ ns

-- the numbers of the cells to which variables point, in the order of the variables
abbrev pub pointed : List Cell → List Entry → List ℕ
pointed cells [] = []
pointed cells (e ∷ es) = with_number (number_in cells e.value) (pointed cells es)

-- the order in which cells begin lines: those to which no cell leads, those to which variables point, and then all
abbrev pub order_of : List Cell → List Entry → List ℕ
order_of cells es = heads cells 0 cells ++ pointed cells es ++ numbers 0 cells

-- the line begins at the first cell, in the order, that stands in no earlier line
pub record BeginsLine (order : List ℕ) (spots : List Spot) (line : ℕ) : Type 0 where
  pub before : List ℕ
  pub first : ℕ
  pub after : List ℕ
  pub split : order ≡ before ++ first ∷ after
  pub begins : spot_at spots first ≡ record { line = line; column = 0 }
  pub earlier : All (λ i. (spot_at spots i).line < line) before

-- lines are numbered from 1, and each, up to the last, begins where the order says
pub record AreInOrder (order : List ℕ) (spots : List Spot) : Type 0 where
  pub from_one : (j : ℕ) → j < length spots → 0 < (spot_at spots j).line
  pub begin : (j line : ℕ) → j < length spots → 0 < line → line ≤ (spot_at spots j).line → BeginsLine order spots line

-- numbers of cells
abbrev pub AreWithin : List Cell → List ℕ → Type 0
AreWithin cells ns = All (λ i. i < length cells) ns
