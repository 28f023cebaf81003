-- Drawings as they are kept, and the files that have one.
use Rattle.std.specs.Prelude.{◌≡◌, ◌≢◌, ℕ, suc, ◌<◌, ◌^◌, List, [], ◌∷◌, ◌++◌, codes, All, Contains, map}
use Rattle.std.specs.List.{flat_map}
use Rattle.std.specs.Fmt.{decimal}
use Rattle.std.specs.FinMap.{entries}
use Rattle.gh_ast.specs.Plain.{Procedure, Program}
use Rattle.gh_ast.specs.Programs.{Name, variable_names}
use Rattle.gh_assert.specs.declared.store.Entry.{Entry}
use Rattle.gh_assert.specs.Stores.{listed_names}
use Rattle.gh_path.specs.Conditions.{Condition, IsConditionAt, IsOf}
use Rattle.gh_trace.specs.Kept.{state_of}
use Rattle.gh_trace.specs.Validity.{AreCounterexample}
use Rattle.gh_trace.specs.declared.state.State.{State}
use Rattle.gh_draw.specs.Drawings.{line, heap_line, drawing, IsDrawable}

-- ` NAME=VALUE`
abbrev pub entry_text : Entry → List ℕ
entry_text e = codes " " ++ e.name ++ codes "=" ++ decimal e.value

-- the entries in their order
abbrev pub entries_line : List Entry → List ℕ
entries_line es = codes "store" ++ flat_map entry_text es

-- the two lines that tell a kept state
abbrev pub kept_lines : State → List ℕ
kept_lines s = line (entries_line s.store) ++ line (heap_line s.heap)

abbrev pub kept_text : ℕ → State → List ℕ
kept_text k s = line (codes "state " ++ decimal k) ++ kept_lines s

-- states are numbered from k
abbrev pub kept_texts : ℕ → List State → List ℕ
kept_texts k [] = []
kept_texts k (s ∷ ss) = kept_text k s ++ kept_texts (suc k) ss

abbrev pub drawing_text : ℕ → List State → List ℕ
drawing_text number ss =
    line (codes "drawing") ++ line (codes "condition " ++ decimal number) ++ kept_texts 0 ss ++ line (codes "end")

abbrev pub IsValue : ℕ → Type 0
IsValue n = n < 2 ^ 32

-- the cell of a place that isn't null
pub record IsDrawnCell (cell : ℕ × ℕ) : Type 0 where
  pub not_null : cell.0 ≢ 0
  pub place : IsValue cell.0
  pub content : IsValue cell.1

-- all values are within 32 bits, and null has no cell
pub record HasValues (s : State) : Type 0 where
  pub values : All (λ e. IsValue e.value) s.store
  pub cells : All IsDrawnCell (entries s.heap)

-- the store has these variables in their order
abbrev pub HasVariables : List Name → State → Type 0
HasVariables names s = listed_names s.store ≡ names

-- a state over these variables in which all values are within 32 bits, and null has no cell
pub record IsDrawnState (names : List Name) (s : State) : Type 0 where
  pub over : HasVariables names s
  pub values : All (λ e. IsValue e.value) s.store
  pub cells : All IsDrawnCell (entries s.heap)

-- the states are drawn for the condition of the number, and there is at least one
pub record IsDrawnFor (P : Program) (number : ℕ) (ss : List State) : Type 0 where
  pub condition : Condition
  pub procedure : Procedure
  pub of : IsOf P condition procedure
  pub at : IsConditionAt P number condition
  pub fits : IsValue number
  pub some : ss ≢ []
  pub states : All (IsDrawnState (variable_names procedure)) ss

-- a line before the drawing
pub record IsOtherLine (l : List ℕ) : Type 0 where
  pub one : Contains l 10 → ⊥
  pub other : l ≢ codes "drawing"

-- lines that are skipped, and then the drawing alone
pub record IsFileOf (P : Program) (text : List ℕ) (number : ℕ) (ss : List State) : Type 0 where
  pub skipped : List (List ℕ)
  pub others : All IsOtherLine skipped
  pub whole : text ≡ flat_map line skipped ++ drawing_text number ss
  pub drawn : IsDrawnFor P number ss

-- kept states of a condition, drawn under its number: the text is that of the states that they stand for; these
-- refute the condition, and have no value past 32 bits
pub record IsTold (P : Program) (number : ℕ) (c : Condition) (ss : List State) : Type 0 where
  pub procedure : Procedure
  pub of : IsOf P c procedure
  pub text : drawing_text number ss ≡ drawing number (variable_names procedure) (map state_of ss)
  pub refutes : AreCounterexample P c (map state_of ss)
  pub drawable : All (IsDrawable (variable_names procedure)) (map state_of ss)
