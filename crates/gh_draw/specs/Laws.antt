-- Drawings and their files.
use Rattle.std.specs.Prelude.{◌≡◌, ◌≢◌, ℕ, List, [], ◌++◌, map, All, Contains, Option}
use Rattle.std.specs.List.{flat_map}
use Rattle.gh_ast.specs.Grammar.{Spells}
use Rattle.gh_ast.specs.Plain.{Procedure, Program}
use Rattle.gh_ast.specs.Programs.{Name, variable_names}
use Rattle.gh_ast.specs.Rules.{IsTyped}
use Rattle.gh_assert.specs.Heaps.{IsProper}
use Rattle.gh_assert.specs.Stores.{listed_names, AreDistinct}
use Rattle.gh_path.specs.Conditions.{Condition, conditions, IsConditionAt, IsOf}
use Rattle.gh_trace.specs.Kept.{state_of, drawn}
use Rattle.gh_trace.specs.Replay.{IsDrawnCounterexample}
use Rattle.gh_trace.specs.declared.state.State.{State}
use Rattle.gh_draw.specs.Descriptions.{description}
use Rattle.gh_draw.specs.Drawings.{line, drawing, IsDrawable}
use Rattle.gh_draw.specs.Drawn.{drawing_text, IsValue, HasValues, HasVariables, IsDrawnFor, IsTold, IsOtherLine}
use Rattle.gh_draw.specs.Drawn.{IsFileOf}
use Rattle.gh_draw.specs.Reading.{IsDrawingIn, IsDrawingOf}
use Rattle.gh_draw.specs.declared.drawing.Drawing.{Drawing}

-- a file has at most one drawing of a condition of the program
abbrev pub DrawingsAreOne : Type 0
DrawingsAreOne =
    (P : Program) (text : List ℕ) (n m : ℕ) (xs ys : List State) → IsFileOf P text n xs → IsFileOf P text m ys
    → (n ≡ m) × (xs ≡ ys)

-- the text of a drawing is a file that has it
abbrev pub DrawingsAreFiles : Type 0
DrawingsAreFiles = (P : Program) (n : ℕ) (xs : List State) → IsDrawnFor P n xs → IsFileOf P (drawing_text n xs) n xs

-- what is read from the text of a drawing over the variables of its condition is that drawing
abbrev pub DrawingsReadBack : Type 0
DrawingsReadBack =
    (P : Program) (n : ℕ) (c : Condition) (proc : Procedure) (xs : List State) (read : Option Drawing)
    → IsConditionAt P n c → IsValue n
    → IsOf P c proc → xs ≢ [] → All (HasVariables (variable_names proc)) xs → All HasValues xs
    → IsDrawingIn P (drawing_text n xs) read → IsDrawingOf n xs read

-- the text of a drawing is that of its states over the variables of its condition
abbrev pub DrawingsAreTold : Type 0
DrawingsAreTold =
    (P : Program) (n : ℕ) (xs : List State) → IsTyped P → (d : IsDrawnFor P n xs)
    → drawing_text n xs ≡ drawing n (variable_names d.procedure) (map state_of xs)

-- a report that ends in a drawing, after other lines, is a file that has it
abbrev pub ReportsAreFiles : Type 0
ReportsAreFiles =
    (P : Program) (lines : List (List ℕ)) (n : ℕ) (xs : List State) → IsTyped P → All IsOtherLine lines
    → (d : IsDrawnFor P n xs)
    → IsFileOf P (flat_map line lines ++ drawing n (variable_names d.procedure) (map state_of xs)) n xs

-- kept states that refute the condition of a number are told by their drawing
abbrev pub RefutationsAreTold : Type 0
RefutationsAreTold =
    (P : Program) (n : ℕ) (c : Condition) (xs : List State) → IsTyped P → IsConditionAt P n c
    → IsDrawnCounterexample P c (map drawn xs) → All HasValues xs → IsTold P n c xs

-- the description of a condition of a program that a text spells is a line that may stand before a drawing
abbrev pub DescriptionsAreLines : Type 0
DescriptionsAreLines =
    (source : List ℕ) (P : Program) (c : Condition) → Spells source P → Contains (conditions P) c
    → IsOtherLine (description P c)

-- and so a report of one line, the description of a condition and the drawing of states that refute it is a file that
-- has these states
abbrev pub RefutationsAreFiles : Type 0
RefutationsAreFiles =
    (source : List ℕ) (P : Program) (first : List ℕ) (n : ℕ) (c : Condition) (xs : List State) → Spells source P
    → IsTyped P → IsOtherLine first → IsConditionAt P n c → IsValue n
    → (r : IsDrawnCounterexample P c (map drawn xs)) → All HasValues xs
    → IsFileOf P (line first ++ line (description P c) ++ drawing n (variable_names r.procedure) (map state_of xs)) n xs

-- where each name stands once and null has no cell, kept states have values within 32 bits exactly where the states
-- that they stand for are drawable
pub record DrawableHaveValues : Type 0 where
  pub drawable : (names : List Name) (s : State) → HasValues s → IsDrawable names (state_of s)
  pub values : (s : State) → AreDistinct s.store → IsProper s.heap → IsDrawable (listed_names s.store) (state_of s)
      → HasValues s
