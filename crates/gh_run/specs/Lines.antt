-- What the lines of a state file show, with what is left of the text after them.
use Rattle.std.specs.Prelude.{◌≡◌, ℕ, List, [], ◌++◌, codes, Option, MatchOption}
use denote.Ref.{Bor}
use Rattle.gh_ast.specs.Plain.{Procedure, Program}
use Rattle.gh_ast.specs.Programs.{Name, name_of}
use Rattle.gh_assert.specs.Heaps.{Heap}
use Rattle.gh_assert.specs.declared.store.Entry.{Entry}
use Rattle.gh_path.specs.Graphs.{IsProcedureAt}
use Rattle.gh_draw.specs.Drawings.{line}
use Rattle.gh_draw.specs.Reading.{After, HasNoEnd, ShowsEntries, ShowsHeap}
use Rattle.gh_run.specs.StateFiles.{IsOneLine}

-- the first line, and what follows its line feed
pub record IsFirstLine (text l rest : List ℕ) : Type 0 where
  pub whole : text ≡ line l ++ rest
  pub one : IsOneLine l

-- the first line, and what is left after it; none where there is no line feed
abbrev pub IsLineTaken : List ℕ → List ℕ → Option (Bor (List ℕ)) → Type 0
IsLineTaken text left o = MatchOption o (HasNoEnd text) (λ l. IsFirstLine text l.now left)

-- the procedure of the number has the name
pub record IsNumberOf (P : Program) (name : Name) (n : ℕ) : Type 0 where
  pub procedure : Procedure
  pub numbered : IsProcedureAt P n procedure
  pub named : name_of procedure ≡ name

-- no procedure has the name
abbrev pub HasNoNumber : Program → Name → Type 0
HasNoNumber P name = (n : ℕ) → IsNumberOf P name n → ⊥

-- the number of the procedure that has the name, or no procedure has it
abbrev pub IsNumberFound : Program → Name → Option ℕ → Type 0
IsNumberFound P name o = MatchOption o (HasNoNumber P name) (IsNumberOf P name)

-- a line that names a procedure
pub record ShowsProcedure (P : Program) (text : List ℕ) (n : ℕ) (rest : List ℕ) : Type 0 where
  pub name : Name
  pub first : IsFirstLine text (codes "procedure " ++ name) rest
  pub number : IsNumberOf P name n

-- a line with a value for each name
pub record ShowsStore (names : List Name) (text : List ℕ) (es : List Entry) (rest : List ℕ) : Type 0 where
  pub whole : List ℕ
  pub first : IsFirstLine text whole rest
  pub shown : After (codes "store") (ShowsEntries names) whole es []

-- a line of cells
abbrev pub ShowsCellLine : List ℕ → Heap → List ℕ → Type 0
ShowsCellLine = After (codes "heap") ShowsHeap
