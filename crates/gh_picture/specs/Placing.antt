-- Cells that are placed one after the other.
use Rattle.std.specs.Prelude.{◌≡◌, ◌≢◌, ◌⊎◌, ℕ, ◌+◌, ◌<◌, ◌≤◌, Bool, false, List, ◌∷◌, ◌++◌, Option, Some, None}
use Rattle.std.specs.Prelude.{is_none, length, get_or, slice_index_or, IsSome, All}
use Rattle.std.specs.List.{count_by, list_any}
use Rattle.gh_assert.specs.declared.heap.Cell.{Cell}
use Rattle.gh_picture.specs.Spots.{LeadsTo, MayFollow, right_of, leads_to}
use Rattle.gh_picture.specs.declared.layout.Spot.{Spot}

abbrev pub Board : Type 0
Board = List (Option Spot)

abbrev pub spot_on : Board → ℕ → Option Spot
spot_on board i = slice_index_or board i None

-- the cell stands at the spot
abbrev pub StandsAt : Board → ℕ → Spot → Type 0
StandsAt board i s = spot_on board i ≡ Some s

-- no two cells share a spot
abbrev pub ShareNoSpot : Board → Type 0
ShareNoSpot board = (i j : ℕ) (s : Spot) → i ≢ j → StandsAt board i s → StandsAt board j s → ⊥

-- what stands goes on where it stands
abbrev pub StillStands : Board → Board → Type 0
StillStands old new = (i : ℕ) (s : Spot) → StandsAt old i s → StandsAt new i s

-- a cell that stands just left of the spot t leads to the cell j
abbrev pub IsLedTo : List Cell → Board → ℕ → Spot → Type 0
IsLedTo cells board j t = (i : ℕ) × (s : Spot) × StandsAt board i s × LeadsTo cells i j × (t ≡ right_of s)

-- what stands in a line, past its first cell, is what the cell at the left leads to
abbrev pub AreLists : List Cell → Board → Type 0
AreLists cells board = (j : ℕ) (t : Spot) → StandsAt board j t → 0 < t.column → IsLedTo cells board j t

-- the cells that stand are whole lists, in the lines before this one
pub record HasLines (cells : List Cell) (board : Board) (line : ℕ) : Type 0 where
  pub one_each : length board ≡ length cells
  pub some : 0 < line
  pub from_one : (i : ℕ) (s : Spot) → StandsAt board i s → 0 < s.line
  pub above : (i : ℕ) (s : Spot) → StandsAt board i s → s.line < line
  pub apart : ShareNoSpot board
  pub in_lines : (i j : ℕ) (s : Spot) → StandsAt board i s → LeadsTo cells i j
      → (t : Spot) × StandsAt board j t × MayFollow s t
  pub lists : AreLists cells board

-- the spot is in an earlier line, or in this one before the column
abbrev pub IsBefore : ℕ → ℕ → Spot → Type 0
IsBefore line column s = (s.line < line) ⊎ ((s.line ≡ line) × (s.column < column))

-- j is the next cell of the line, and its spot is just right of s
abbrev pub IsAwaited : ℕ → ℕ → ℕ → Spot → ℕ → Type 0
IsAwaited line column next s j = (j ≡ next) × (right_of s ≡ record { line = line; column = column })

-- a line is begun, and the next cell is to stand at the column
pub record IsLineBegun (cells : List Cell) (board : Board) (line column next : ℕ) : Type 0 where
  pub one_each : length board ≡ length cells
  pub some : 0 < line
  pub from_one : (i : ℕ) (s : Spot) → StandsAt board i s → 0 < s.line
  pub within : next < length cells
  pub room : column + count_by is_none board ≤ length cells
  pub before : (i : ℕ) (s : Spot) → StandsAt board i s → IsBefore line column s
  pub apart : ShareNoSpot board
  pub in_lines : (i j : ℕ) (s : Spot) → StandsAt board i s → LeadsTo cells i j
      → ((t : Spot) × StandsAt board j t × MayFollow s t) ⊎ IsAwaited line column next s j
  pub lists : AreLists cells board
  pub comes : 0 < column → IsLedTo cells board next (record { line = line; column = column })

-- all cells before a number stand
abbrev pub AllPlaced : Board → ℕ → Type 0
AllPlaced board n = (i : ℕ) → i < n → IsSome (spot_on board i)

-- all cells of some numbers stand
abbrev pub EachStands : Board → List ℕ → Type 0
EachStands board ns = All (λ i. IsSome (spot_on board i)) ns

-- while a line is placed that begins at a cell: no cell of it stands, or the first one stands at its beginning
abbrev pub IsOnLine : Board → ℕ → ℕ → ℕ → ℕ → Type 0
IsOnLine board line from next column =
    ((next ≡ from) × (column ≡ 0) × (spot_on board from ≡ None))
    ⊎ StandsAt board from (record { line = line; column = 0 })

-- no line is begun, as the cell stands already; or one is, and begins at the cell
abbrev pub MayBegin : Board → ℕ → ℕ → ℕ → Type 0
MayBegin board line from next =
    (next ≡ line) ⊎ ((next ≡ line + 1) × StandsAt board from (record { line = line; column = 0 }))

-- the cell stands in a line before this one
abbrev pub StandsAbove : Board → ℕ → ℕ → Type 0
StandsAbove board line i = (s : Spot) × StandsAt board i s × (s.line < line)

-- the line begins at the first cell, in the order, that stands in no earlier line
pub record BeginsOn (order : List ℕ) (board : Board) (line : ℕ) : Type 0 where
  pub before : List ℕ
  pub first : ℕ
  pub after : List ℕ
  pub split : order ≡ before ++ first ∷ after
  pub begins : StandsAt board first (record { line = line; column = 0 })
  pub earlier : All (StandsAbove board line) before

-- so do all lines before one
abbrev pub AllBegin : List ℕ → Board → ℕ → Type 0
AllBegin order board line = (k : ℕ) → 0 < k → k < line → BeginsOn order board k

-- for each cell whether one of those that are seen leads to it
pub record AreFlags (cells seen : List Cell) (flags : List Bool) : Type 0 where
  pub one_each : length flags ≡ length cells
  pub each : (j : ℕ) → j < length cells → get_or flags j false ≡ list_any (leads_to cells j) seen
