-- What the parts of a drawing show at the front of a text, with what is left of it after them.
use Rattle.std.specs.Prelude.{◌≡◌, ◌≢◌, ℕ, suc, ◌<◌, ◌≤◌, ◌++◌, List, [], ◌∷◌, codes, Option, Some, None, ⊤, Bool}
use Rattle.std.specs.Prelude.{true, false, Contains, All, AllPairs, slice_index, take, drop, length}
use Rattle.std.specs.Prelude.{option_map, Vec}
use Rattle.std.specs.Global.{Global}
use Rattle.std.specs.Int.{IsInRange}
use Rattle.std.specs.Str.{all_ascii_digits}
use Rattle.std.specs.Str.Parse.{digits_value}
use Rattle.std.specs.List.{flat_map}
use Rattle.std.specs.Fmt.{decimal}
use Rattle.std.specs.FinMap.{entries}
use Rattle.gh_base.specs.Texts.{line_end}
use Rattle.gh_ast.specs.Plain.{Procedure, Program}
use Rattle.gh_ast.specs.Programs.{Name, variable_names}
use Rattle.gh_assert.specs.Heaps.{Heap}
use Rattle.gh_assert.specs.declared.store.Entry.{Entry}
use Rattle.gh_path.specs.Conditions.{Condition, IsConditionAt, IsOf}
use Rattle.gh_trace.specs.declared.state.State.{State}
use Rattle.gh_trace.specs.declared.state.Trace.{Trace}
use Rattle.gh_draw.specs.Drawings.{line}
use Rattle.gh_draw.specs.Drawn.{IsValue, IsOtherLine, IsFileOf}
use Rattle.gh_draw.specs.declared.drawing.Drawing.{Drawing}

-- found, with what is left; or nothing is shown at the front
abbrev pub IsFrontRead : {X : Type 0} → (List ℕ → X → List ℕ → Type 0) → List ℕ → List ℕ → Option X → Type 0
IsFrontRead Shows text left (Some x) = Shows text x left
IsFrontRead {X} Shows text left None = (x : X) (rest : List ℕ) → Shows text x rest → ⊥

-- the text begins with the word; nothing more is read from it
abbrev pub ShowsWord : List ℕ → List ℕ → Unit {0} → List ℕ → Type 0
ShowsWord word text u rest = text ≡ word ++ rest

-- the word, and then what is shown
abbrev pub After : {X : Type 0} → List ℕ → (List ℕ → X → List ℕ → Type 0) → List ℕ → X → List ℕ → Type 0
After word Shows text x rest = (mid : List ℕ) × (text ≡ word ++ mid) × Shows mid x rest

abbrev pub NoDigitFirst : List ℕ → Type 0
NoDigitFirst [] = ⊤
NoDigitFirst (c ∷ cs) = IsInRange 48 57 c → ⊥

-- the first `count` characters are digits, and no digit follows them
pub record IsSplitAt (text : List ℕ) (count : ℕ) : Type 0 where
  pub within : count ≤ length text
  pub digits : all_ascii_digits (take count text) ≡ true
  pub ends : NoDigitFirst (drop count text)

abbrev pub HasLeadingZero : List ℕ → Type 0
HasLeadingZero digits = (1 < length digits) × (slice_index digits 0 ≡ 48)

-- n is the value of the digits, of which there is at least one, and fits 32 bits
pub record IsValueOf (digits : List ℕ) (n : ℕ) : Type 0 where
  pub some : 0 < length digits
  pub fits : IsValue n
  pub value_is : n ≡ digits_value 10 digits

-- a number in decimal, with all its digits
pub record ShowsNumber (text : List ℕ) (n : ℕ) (rest : List ℕ) : Type 0 where
  pub fits : IsValue n
  pub shown : text ≡ decimal n ++ rest
  pub ends : NoDigitFirst rest

-- ` NAME=VALUE`
abbrev pub ShowsValue : Name → List ℕ → ℕ → List ℕ → Type 0
ShowsValue name = After (codes " ") (After name (After (codes "=") ShowsNumber))

-- a value for each name
abbrev pub ShowsEntries : List Name → List ℕ → List Entry → List ℕ → Type 0
ShowsEntries [] text es rest = (es ≡ []) × (text ≡ rest)
ShowsEntries (n ∷ ns) text es rest =
    (v : ℕ) × (mid : List ℕ) × (fs : List Entry) × (es ≡ record { name = n; value = v } ∷ fs) × ShowsValue n text v mid
    × ShowsEntries ns mid fs rest

-- `PLACE->CONTENT`
abbrev pub ShowsCell : List ℕ → ℕ × ℕ → List ℕ → Type 0
ShowsCell text c rest = (mid : List ℕ) × ShowsNumber text c.0 mid × After (codes "->") ShowsNumber mid c.1 rest

-- a cell after a space, with a place above `low`
pub record ShowsCellAbove (low : ℕ) (text : List ℕ) (c : ℕ × ℕ) (rest : List ℕ) : Type 0 where
  pub above : low < c.0
  pub cell : After (codes " ") ShowsCell text c rest

-- cells in ascending order above a place, and the end of the line
abbrev pub ShowsCells : ℕ → List ℕ → List (ℕ × ℕ) → List ℕ → Type 0
ShowsCells low text [] rest = text ≡ line_end ++ rest
ShowsCells low text (c ∷ cs) rest = (mid : List ℕ) × ShowsCellAbove low text c mid × ShowsCells c.0 mid cs rest

abbrev pub ShowsHeap : List ℕ → Heap → List ℕ → Type 0
ShowsHeap text h rest = ShowsCells 0 text (entries h) rest

-- `state K` and the word before the values
abbrev pub heading : ℕ → List ℕ
heading k = codes "state " ++ decimal k ++ codes "\nstore"

-- the state of a number over some names
pub record ShowsState (names : List Name) (k : ℕ) (text : List ℕ) (s : State) (rest : List ℕ) : Type 0 where
  pub values : List ℕ
  pub cells : List ℕ
  pub begins : text ≡ heading k ++ values
  pub store : ShowsEntries names values s.store (codes "\nheap" ++ cells)
  pub heap : ShowsHeap cells s.heap rest

-- states from a number on, and the end
abbrev pub ShowsStates : List Name → ℕ → List ℕ → List State → List ℕ → Type 0
ShowsStates names k text [] rest = text ≡ codes "end\n" ++ rest
ShowsStates names k text (s ∷ ss) rest =
    (mid : List ℕ) × ShowsState names k text s mid × ShowsStates names (suc k) mid ss rest

-- the states that are read at the front of the text, up to the line `end`
abbrev pub AreStatesRead : List Name → List ℕ → List ℕ → Option (Vec State Global) → Type 0
AreStatesRead names text left o = IsFrontRead (ShowsStates names 0) text left (option_map (λ v. v.items) o)

-- `condition K`
abbrev pub ShowsCondition : List ℕ → ℕ → List ℕ → Type 0
ShowsCondition text n rest = (mid : List ℕ) × (text ≡ codes "condition " ++ mid) × ShowsNumber mid n (line_end ++ rest)

-- states for the condition of a number, to the end of the text
pub record ShowsTrace (P : Program) (number : ℕ) (text : List ℕ) (ss : List State) : Type 0 where
  pub condition : Condition
  pub procedure : Procedure
  pub of : IsOf P condition procedure
  pub at : IsConditionAt P number condition
  pub some : ss ≢ []
  pub states : ShowsStates (variable_names procedure) 0 text ss []

-- found, or there is none
abbrev pub IsOneOrNone : {X : Type 0} → (X → Type 0) → Option X → Type 0
IsOneOrNone P (Some x) = P x
IsOneOrNone {X} P None = (x : X) → P x → ⊥

-- the states that the text shows for the condition of a number
abbrev pub IsTraceFound : Program → ℕ → List ℕ → Option Trace → Type 0
IsTraceFound P number text o = IsOneOrNone (ShowsTrace P number text) (option_map (λ t. t.states.items) o)

-- the place of the first line feed
pub record IsLineEnd (text : List ℕ) (n : ℕ) : Type 0 where
  pub within : n < length text
  pub here : slice_index text n ≡ 10
  pub before : (k : ℕ) → k < n → slice_index text k ≡ 10 → ⊥

abbrev pub HasNoEnd : List ℕ → Type 0
HasNoEnd text = (k : ℕ) → k < length text → slice_index text k ≡ 10 → ⊥

-- one line with its line feed; where there is none, no line feed is left
abbrev pub IsLine : List ℕ → List ℕ → Bool → Type 0
IsLine text left true = (l : List ℕ) × (Contains l 10 → ⊥) × (text ≡ line l ++ left)
IsLine text left false = HasNoEnd text

-- other lines, and then the first that is `drawing`
pub record Skips (text rest : List ℕ) : Type 0 where
  pub skipped : List (List ℕ)
  pub others : All IsOtherLine skipped
  pub whole : text ≡ flat_map line skipped ++ (codes "drawing\n" ++ rest)

abbrev pub IsSkipped : List ℕ → List ℕ → Bool → Type 0
IsSkipped text left true = Skips text left
IsSkipped text left false = (rest : List ℕ) → Skips text rest → ⊥

abbrev pub AreDistinctNames : List Name → Type 0
AreDistinctNames ns = AllPairs (λ x y. x ≢ y) ns

-- the drawing that a file has, if it has one
abbrev pub IsDrawingIn : Program → List ℕ → Option Drawing → Type 0
IsDrawingIn P text None = (number : ℕ) (ss : List State) → IsFileOf P text number ss → ⊥
IsDrawingIn P text (Some d) = IsFileOf P text d.condition d.trace.states.items

-- what is read is the drawing of these states for the condition of the number
abbrev pub IsDrawingOf : ℕ → List State → Option Drawing → Type 0
IsDrawingOf number ss None = ⊥
IsDrawingOf number ss (Some d) = (d.condition ≡ number) × (d.trace.states.items ≡ ss)
