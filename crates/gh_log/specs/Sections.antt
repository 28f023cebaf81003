-- The lines of a section, and when it is valid for a problem: a list of clauses with its numbers of terms, versions and
-- definitions.
use Rattle.std.specs.Prelude.{◌≡◌, ◌⊎◌, ⊤, ◌+◌, ◌<◌, ℕ, List, [], ◌∷◌, ◌++◌, take, length, slice_get, slice_index_or}
use Rattle.std.specs.Prelude.{Option, Some, None, All, Contains, filter_map, AllPairs, ◌≢◌}
use Rattle.gh_base.specs.declared.atom.Lit.{Lit}
use Rattle.gh_base.specs.Atoms.{AreInRange}
use Rattle.gh_base.specs.Grounds.{Problem}
use Rattle.gh_base.specs.Meaning.{Interpretation, IsCongruence, IsClauseTrue, IsEqualityClause}
use Rattle.gh_base.specs.Propagation.{FollowsByUnits}
use Rattle.gh_base.specs.Hints.{IsShownByHints}
use Rattle.gh_inst.specs.Instances.{IsInstance, clause_of}
use Rattle.gh_inst.specs.Violations.{AreInstancesTrue}
use Rattle.gh_log.specs.Lines.{LogLine}
use Rattle.gh_log.specs.Lines as line

-- the clause of a line: that of its instance or its ground clause, or its own; a deletion has none
abbrev pub line_clause : Problem → LogLine → Option (List Lit)
line_clause p (line.Axiom name) = Some (clause_of name)
line_clause p (line.Clause k) = Some (slice_index_or p.clauses k [])
line_clause p (line.Lemma c) = Some c
line_clause p (line.Learnt c) = Some c
line_clause p (line.Hinted c hints) = Some c
line_clause p (line.Delete positions) = None

-- the clauses of the lines that have one, in order
abbrev pub clauses_of : Problem → List LogLine → List (List Lit)
clauses_of p lines = filter_map (line_clause p) lines

-- the line deletes the position k
abbrev pub Deletes : LogLine → ℕ → Type 0
Deletes (line.Delete positions) k = Contains positions k
Deletes _ k = ⊥

-- the line at the position, counted from 1, has this clause
pub record HasClauseAt (p : Problem) (lines : List LogLine) (position : ℕ) (clause : List Lit) : Type 0 where
  pub place : ℕ
  pub position_is : position ≡ place + 1
  pub line : LogLine
  pub at : slice_get lines place ≡ Some line
  pub has : line_clause p line ≡ Some clause

-- the position is that of a line with a clause which no line deletes
pub record IsUndeleted (p : Problem) (lines : List LogLine) (position : ℕ) : Type 0 where
  pub clause : List Lit
  pub there : HasClauseAt p lines position clause
  pub kept : All (λ l. Deletes l position → ⊥) lines

abbrev pub AllUndeleted : Problem → List LogLine → List ℕ → Type 0
AllUndeleted p lines positions = All (IsUndeleted p lines) positions

-- the clauses at the positions, one by one
abbrev pub AreAt : Problem → List LogLine → List ℕ → List (List Lit) → Type 0
AreAt p lines [] [] = ⊤
AreAt p lines [] (c ∷ cs) = ⊥
AreAt p lines (k ∷ ks) [] = ⊥
AreAt p lines (k ∷ ks) (c ∷ cs) = HasClauseAt p lines k c × AreAt p lines ks cs

-- the clauses at the hints, which all stand, show the clause by unit propagation in their order
pub record IsHinted (p : Problem) (earlier : List LogLine) (clause : List Lit) (hints : List ℕ) : Type 0 where
  pub stand : AllUndeleted p earlier hints
  pub clauses : List (List Lit)
  pub at : AreAt p earlier hints clauses
  pub shown : IsShownByHints clauses clause

-- a line is of its kind, after these lines
abbrev pub IsOfKind : Problem → List LogLine → LogLine → Type 0
IsOfKind p earlier (line.Axiom name) = IsInstance p.sizes.terms p.sizes.versions name
IsOfKind p earlier (line.Clause k) = k < length p.clauses
IsOfKind p earlier (line.Lemma c) = IsEqualityClause p.sizes c
IsOfKind p earlier (line.Learnt c) = AreInRange p.sizes c × FollowsByUnits (clauses_of p earlier) c
IsOfKind p earlier (line.Hinted c hints) = AreInRange p.sizes c × IsHinted p earlier c hints
IsOfKind p earlier (line.Delete positions) = AllUndeleted p earlier positions × AllPairs ◌≢◌ positions

-- each line is of its kind, after the lines before it
abbrev pub AreOfKind : Problem → List LogLine → Type 0
AreOfKind p lines = (i : ℕ) (l : LogLine) → slice_get lines i ≡ Some l → IsOfKind p (take i lines) l

-- the last line has a clause, and that is empty
abbrev pub EndsEmpty : Problem → List LogLine → Type 0
EndsEmpty p lines =
    (before : List LogLine) × (last : LogLine) × (lines ≡ before ++ last ∷ []) × (line_clause p last ≡ Some [])

pub record IsValidSection (p : Problem) (lines : List LogLine) : Type 0 where
  pub of_kind : AreOfKind p lines
  pub ends : EndsEmpty p lines

-- the number of the fault of a line that isn't of its kind after these lines
abbrev pub IsFaultOf : Problem → List LogLine → LogLine → ℕ → Type 0
IsFaultOf p earlier (line.Axiom name) number = number ≡ 1
IsFaultOf p earlier (line.Clause k) number = number ≡ 2
IsFaultOf p earlier (line.Lemma c) number = number ≡ 3
IsFaultOf p earlier (line.Learnt c) number = number ≡ 4
IsFaultOf p earlier (line.Hinted c hints) number =
    (AllUndeleted p earlier hints × (number ≡ 4)) ⊎ ((AllUndeleted p earlier hints → ⊥) × (number ≡ 6))
IsFaultOf p earlier (line.Delete positions) number = number ≡ 6

-- a line that isn't of its kind, after lines that are
pub record IsFirstFaulty (p : Problem) (lines : List LogLine) (number place : ℕ) : Type 0 where
  pub line : LogLine
  pub at : slice_get lines place ≡ Some line
  pub earlier : AreOfKind p (take place lines)
  pub faulty : IsOfKind p (take place lines) line → ⊥
  pub number_is : IsFaultOf p (take place lines) line number

-- every line is of its kind, but there is no last line whose clause is empty
pub record HasNoEnd (p : Problem) (lines : List LogLine) (number place : ℕ) : Type 0 where
  pub of_kind : AreOfKind p lines
  pub no_end : EndsEmpty p lines → ⊥
  pub number_is : number ≡ 5
  pub place_is : place ≡ length lines

-- the first fault of a section: its number, and how many lines stand before its place
abbrev pub IsFirstFault : Problem → List LogLine → ℕ → ℕ → Type 0
IsFirstFault p lines number place = IsFirstFaulty p lines number place ⊎ HasNoEnd p lines number place

-- no interpretation whose equality is a congruence makes the clauses and all axiom instances true
abbrev pub HasNoModel : Problem → Type 0
HasNoModel p =
    (m : Interpretation) → IsCongruence p.sizes m → All (IsClauseTrue m) p.clauses → AreInstancesTrue p.sizes m → ⊥

-- a problem for which a section is valid has no model
abbrev pub ValidSectionsRefute : Type 0
ValidSectionsRefute = (p : Problem) (lines : List LogLine) → IsValidSection p lines → HasNoModel p
