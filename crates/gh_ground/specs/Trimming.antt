-- Sections without the lines that nothing later needs.
use Rattle.std.specs.Prelude.{◌≡◌, ◌⊎◌, ◌+◌, ◌-◌, ◌<◌, ◌≤◌, ◌++◌, ◌∷◌, [], ⊤, ℕ, List, Bool, true, Some, All, Contains}
use Rattle.std.specs.Prelude.{length, map, slice_get, slice_index}
use Rattle.gh_log.specs.Lines.{LogLine}
use Rattle.gh_log.specs.Lines as line
use Rattle.gh_ground.specs.Solving.{hints_of}
use Rattle.gh_ground.specs.declared.trim.Trimmed.{Trimmed}

abbrev pub IsKeptAt : List Bool → ℕ → Type 0
IsKeptAt kept k = slice_get kept k ≡ Some true

-- the earlier lines at some positions are kept
abbrev pub AreKeptBefore : List Bool → ℕ → List ℕ → Type 0
AreKeptBefore kept place positions = All (λ h. (k : ℕ) → h ≡ k + 1 → k < place → IsKeptAt kept k) positions

-- the earlier lines at a line's hints are kept
abbrev pub AreHintsKept : List Bool → ℕ → LogLine → Type 0
AreHintsKept kept place l = AreKeptBefore kept place (hints_of l)

-- the only lines that are newly kept are earlier ones at some positions
abbrev pub KeepsOnly : List Bool → List Bool → ℕ → List ℕ → Type 0
KeepsOnly old new place positions =
    (k : ℕ) → IsKeptAt new k → IsKeptAt old k ⊎ ((k < place) × Contains positions (k + 1))

-- a later line that is kept has the position of the line at a place as a hint
pub record IsHintOfKept (lines : List LogLine) (kept : List Bool) (k : ℕ) : Type 0 where
  pub place : ℕ
  pub later : k < place
  pub line : LogLine
  pub at : slice_get lines place ≡ Some line
  pub kept_too : IsKeptAt kept place
  pub hint : Contains (hints_of line) (k + 1)

-- the last line is kept and, with each line from a place on, the earlier lines at its hints, and no other is
pub record AreNeeded (lines : List LogLine) (kept : List Bool) (from : ℕ) : Type 0 where
  pub long : length kept ≡ length lines
  pub last : (k : ℕ) → length lines ≡ k + 1 → IsKeptAt kept k
  pub hints : (i : ℕ) (l : LogLine) → from ≤ i → slice_get lines i ≡ Some l → IsKeptAt kept i
      → AreKeptBefore kept i (hints_of l)
  pub only : (k : ℕ) → IsKeptAt kept k → (length lines ≡ k + 1) ⊎ IsHintOfKept lines kept k

-- the same line, with its hints moved by a table of new positions; deletions aren't kept
abbrev pub IsShifted : List ℕ → LogLine → LogLine → Type 0
IsShifted positions (line.Hinted c hints) new =
    new ≡ line.Hinted c (map (λ h. slice_index positions (h - 1)) hints)
IsShifted positions (line.Delete deleted) new = ⊤
IsShifted positions old new = new ≡ old

-- a line was added, with its hints moved
abbrev pub AddsMoved : List ℕ → LogLine → List LogLine → List LogLine → Type 0
AddsMoved positions old before after = (l : LogLine) × IsShifted positions old l × (after ≡ before ++ l ∷ [])

-- a line was kept, with its hints moved by the positions so far
abbrev pub MovesLine : Trimmed → LogLine → Trimmed → Type 0
MovesLine old l new = AddsMoved old.positions.items l old.lines new.lines

-- a new position was noted
abbrev pub AddsPosition : Trimmed → ℕ → Trimmed → Type 0
AddsPosition old n new = new.positions.items ≡ old.positions.items ++ n ∷ []
