-- State files: a procedure, the values of its variables, and cells.
use Rattle.std.specs.Prelude.{◌≡◌, ℕ, ◌<◌, ◌≤◌, List, [], ◌∷◌, ◌++◌, codes, take, All, Contains}
use Rattle.std.specs.List.{flat_map}
use Rattle.std.specs.FinMap.{entries}
use Rattle.gh_ast.specs.Plain.{Procedure, Program}
use Rattle.gh_ast.specs.Programs.{name_of, variable_names}
use Rattle.gh_assert.specs.Stores.{listed_names}
use Rattle.gh_path.specs.Graphs.{IsProcedureAt}
use Rattle.gh_draw.specs.Drawings.{line, heap_line}
use Rattle.gh_draw.specs.Drawn.{entries_line, IsValue, IsDrawnCell}
use Rattle.gh_run.specs.declared.state_file.Begin.{Begin}
use Rattle.gh_run.specs.declared.state_file.StateError.{StateError}
use Rattle.gh_run.specs.declared.state_file.StateError.TheVariants.{Line, OutOfMemory}

-- the procedure of the number, with a value for each of its variables in their order
pub record BeginsIn (P : Program) (b : Begin) (proc : Procedure) : Type 0 where
  pub numbered : IsProcedureAt P b.procedure proc
  pub lists : listed_names b.store ≡ variable_names proc

abbrev pub FitsProgram : Program → Begin → Type 0
FitsProgram P b = (proc : Procedure) × BeginsIn P b proc

-- the four lines: the procedure, its variables, the cells, the end
abbrev pub file_lines : Procedure → Begin → List (List ℕ)
file_lines p b = (codes "procedure " ++ name_of p) ∷ entries_line b.store ∷ heap_line b.heap ∷ codes "end" ∷ []

abbrev pub IsOneLine : List ℕ → Type 0
IsOneLine l = Contains l 10 → ⊥

-- the first k lines of the text are those of a state file of b; past the fourth nothing follows
pub record Tells (P : Program) (text : List ℕ) (k : ℕ) (b : Begin) : Type 0 where
  pub procedure : Procedure
  pub begins : BeginsIn P b procedure
  pub values : All (λ e. IsValue e.value) b.store
  pub cells : All IsDrawnCell (entries b.heap)
  pub rest : List ℕ
  pub whole : text ≡ flat_map line (take k (file_lines procedure b)) ++ rest
  pub lines : All IsOneLine (take k (file_lines procedure b))
  pub ends : 4 < k → rest ≡ []

-- the text is a state file
abbrev pub IsStateFile : Program → List ℕ → Begin → Type 0
IsStateFile P text b = Tells P text 5 b

-- the first k lines are as said; bytes after the fourth are line 5
abbrev pub AreAsSaid : Program → List ℕ → ℕ → Type 0
AreAsSaid P text k = (b : Begin) × Tells P text k b

-- the number of the first line that isn't as said
pub record IsFaultyLine (P : Program) (text : List ℕ) (n : ℕ) : Type 0 where
  pub low : 1 ≤ n
  pub before : (k : ℕ) → 1 ≤ k → k < n → AreAsSaid P text k
  pub here : AreAsSaid P text n → ⊥

-- an error other than out of memory has the number of the first line that isn't as said
abbrev pub IsStateError : Program → List ℕ → StateError → Type 0
IsStateError P text (Line n) = IsFaultyLine P text n
IsStateError P text OutOfMemory = Unit {0}
