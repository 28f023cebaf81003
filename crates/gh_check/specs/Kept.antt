-- What is kept of the lines before: their clauses by their positions, and which positions a line deletes.
use Rattle.std.specs.Prelude.{◌≡◌, ◌≢◌, ◌↔◌, ◌&&◌, ⊤, ◌+◌, ◌-◌, ◌≤◌, ℕ, List, [], ◌∷◌, ◌++◌, map, take, length}
use Rattle.std.specs.Prelude.{filter_map, Bool, false, not, Option, Some, None, All, AllPairs, Contains, IsTrue}
use Rattle.std.specs.Prelude.{is_some, unwrap_or, slice_get, slice_index_or}
use Rattle.gh_base.specs.declared.atom.Lit.{Lit}
use Rattle.gh_base.specs.declared.sizes.Sizes.{Sizes}
use Rattle.gh_base.specs.Atoms.{AreInRange}
use Rattle.gh_base.specs.Grounds.{Problem}
use Rattle.gh_inst.specs.Instances.{IsInstance}
use Rattle.gh_log.specs.Lines.{LogLine}
use Rattle.gh_log.specs.Lines as line
use Rattle.gh_log.specs.Sections.{line_clause, AllUndeleted, Deletes}

-- What callers see of `Positions`: the ground clauses and all lines of a section, the clauses of the lines that were
-- taken, and which positions a line deletes. Both are by position, and position 0 is that of no line.
pub record Kept : Type 0 where
  pub problem : Problem
  pub lines : List LogLine
  pub clauses : List (Option (List Lit))
  pub deleted : List Bool

-- with one more line, by its clause, if it has one
abbrev pub with_line : Kept → Option (List Lit) → Kept
with_line k clause = record k { clauses = k.clauses ++ clause ∷ [] }

-- the line to be taken next
abbrev pub next_line : Kept → Option LogLine
next_line k = slice_get k.lines (length k.clauses - 1)

-- the line to be taken next was taken
abbrev pub TakesLine : Kept → Kept → Type 0
TakesLine old new = (l : LogLine) → next_line old ≡ Some l → new ≡ with_line old (line_clause old.problem l)

-- what the line names is an instance, if it is a line of an axiom
abbrev pub IsNamed : Problem → LogLine → Type 0
IsNamed p (line.Axiom name) = IsInstance p.sizes.terms p.sizes.versions name
IsNamed p _ = ⊤

-- there is a line to be taken next, and what it names is an instance
pub record HasNext (k : Kept) : Type 0 where
  pub line : LogLine
  pub next : next_line k ≡ Some line
  pub named : IsNamed k.problem line

-- no line deletes the position
abbrev pub IsLeft : Kept → ℕ → Type 0
IsLeft k position = slice_index_or k.deleted position false ≡ false

-- what is kept before the first of these lines
pub record IsBeforeAll (p : Problem) (lines : List LogLine) (k : Kept) : Type 0 where
  pub problem : k.problem ≡ p
  pub lines_are : k.lines ≡ lines
  pub clauses : k.clauses ≡ None ∷ []
  pub left : (position : ℕ) → IsLeft k position

-- so many of the lines were taken, whose axiom lines all name instances, and each position has a mark
pub record AreMarked (p : Problem) (lines : List LogLine) (taken : ℕ) (deleted : List Bool) : Type 0 where
  pub within : taken ≤ length lines
  pub marks : length deleted ≡ length lines + 1
  pub named : All (IsNamed p) (take taken lines)

-- there is a clause at the position, and the position isn't deleted
abbrev pub stands_in : Kept → ℕ → Bool
stands_in k position = is_some (slice_index_or k.clauses position None) && not (slice_index_or k.deleted position false)

-- the clause at the position, and the empty one where there is none
abbrev pub clause_at : Kept → ℕ → List Lit
clause_at k position = unwrap_or (slice_index_or k.clauses position None) []

-- the clauses at the positions
abbrev pub named : Kept → List ℕ → List (List Lit)
named k positions = map (clause_at k) positions

-- the clause, if there is one, is in range
abbrev pub IsWithin : Sizes → Option (List Lit) → Type 0
IsWithin s entry = (c : List Lit) → entry ≡ Some c → AreInRange s c

-- each clause that is kept is in range
abbrev pub AreWithin : Sizes → List (Option (List Lit)) → Type 0
AreWithin s entries = All (IsWithin s) entries

-- the clauses that are there
abbrev pub present : List (Option (List Lit)) → List (List Lit)
present entries = filter_map (λ o. o) entries

-- .. at a position
abbrev pub present_at : List (Option (List Lit)) → ℕ → List (List Lit)
present_at entries position = present (slice_index_or entries position None ∷ [])

-- some positions were deleted besides
pub record AreDeleted (old new : Kept) (positions : List ℕ) : Type 0 where
  pub problem : new.problem ≡ old.problem
  pub lines_are : new.lines ≡ old.lines
  pub clauses : new.clauses ≡ old.clauses
  pub deleted : (k : ℕ) → IsLeft new k ↔ (IsLeft old k × (Contains positions k → ⊥))

-- the positions stand, and are distinct
pub record MayBeDeleted (k : Kept) (positions : List ℕ) : Type 0 where
  pub stand : All (λ position. IsTrue (stands_in k position)) positions
  pub distinct : AllPairs ◌≢◌ positions

-- this is kept of these lines, and their clauses are in range
pub record AreLinesKept (p : Problem) (lines : List LogLine) (k : Kept) : Type 0 where
  pub clauses : k.clauses ≡ None ∷ map (line_clause p) lines
  pub stand : (position : ℕ) → IsLeft k position ↔ All (λ l. Deletes l position → ⊥) lines
  pub within : AreWithin p.sizes k.clauses

-- whether all positions stand after the lines of which this is kept
abbrev pub TellsStanding : Kept → List ℕ → Bool → Type 0
TellsStanding k positions told =
    (p : Problem) (lines : List LogLine) → AreLinesKept p lines k → IsTrue told ↔ AllUndeleted p lines positions
