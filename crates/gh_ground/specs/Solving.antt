-- What a decision of ground clauses answers.
use Rattle.std.specs.Prelude.{◌≡◌, ◌+◌, ◌<◌, ◌≤◌, ⊤, ℕ, List, [], Some, All, Contains, length, slice_get}
use Rattle.gh_base.specs.declared.atom.Lit.{Lit}
use Rattle.gh_base.specs.Atoms.{AreInRange}
use Rattle.gh_base.specs.Grounds.{Problem}
use Rattle.gh_base.specs.Meaning.{Interpretation, IsClauseTrue, IsCongruence}
use Rattle.gh_base.specs.Structures.{Tables, interpretation_of}
use Rattle.gh_cc.specs.Partials.{IsStructureOf}
use Rattle.gh_inst.specs.Violations.{AreInstancesTrue}
use Rattle.gh_log.specs.Sections.{IsValidSection}
use Rattle.gh_log.specs.Spelled.{IsOfVersion, IsSpelledLine}
use Rattle.gh_log.specs.Lines.{LogLine}
use Rattle.gh_log.specs.Lines as line
use Rattle.gh_log.specs.declared.lines.Section.{Section}
use Rattle.gh_ground.specs.declared.solve.Answer.{Answer}
use Rattle.gh_ground.specs.declared.solve.Answer.TheVariants.{Model, Refutation}

-- the structure has the numbers of the problem and makes its clauses and all axiom instances true, and its equality is
-- a congruence
pub record IsModelOf (p : Problem) (s : Tables) : Type 0 where
  pub sizes : s.sizes ≡ p.sizes
  pub clauses : All (IsClauseTrue (interpretation_of s)) p.clauses
  pub instances : AreInstancesTrue p.sizes (interpretation_of s)
  pub congruence : IsCongruence p.sizes (interpretation_of s)

-- the literals are in range, and each structure of theirs makes the problem's clauses and all axiom instances true
pub record MakeModel (p : Problem) (lits : List Lit) : Type 0 where
  pub range : AreInRange p.sizes lits
  pub clauses : (m : Interpretation) → IsStructureOf p.sizes lits m → All (IsClauseTrue m) p.clauses
  pub instances : (m : Interpretation) → IsStructureOf p.sizes lits m → AreInstancesTrue p.sizes m

-- a byte counts the terms and the versions, and 32 bits count the definitions and the clauses
pub record FitsTypes (p : Problem) : Type 0 where
  pub terms : p.sizes.terms ≤ 255
  pub versions : p.sizes.versions ≤ 255
  pub defs : p.sizes.defs ≤ 4294967295
  pub clauses : length p.clauses ≤ 4294967295

-- no line deletes others
abbrev pub IsNoDeletion : LogLine → Type 0
IsNoDeletion (line.Delete positions) = ⊥
IsNoDeletion _ = ⊤

-- a line of version 2 that deletes no others
abbrev pub IsPlain : LogLine → Type 0
IsPlain l = IsOfVersion 2 l × IsNoDeletion l

-- the positions that a line has as hints
abbrev pub hints_of : LogLine → List ℕ
hints_of (line.Hinted c hints) = hints
hints_of _ = []

-- a later line has the position of the line at a place as a hint
pub record IsHintLater (lines : List LogLine) (k : ℕ) : Type 0 where
  pub place : ℕ
  pub later : k < place
  pub line : LogLine
  pub at : slice_get lines place ≡ Some line
  pub hint : Contains (hints_of line) (k + 1)

-- each line but the last is at a hint of a later one
abbrev pub IsTrimmed : List LogLine → Type 0
IsTrimmed lines = (k : ℕ) → k + 1 < length lines → IsHintLater lines k

-- the section is valid for the problem, is of version 2 without deletions and stands at the first line, and 32 bits
-- number
-- its lines and the place after them; it may have lines that nothing later needs
pub record RefutesProblem (p : Problem) (s : Section) : Type 0 where
  pub valid : IsValidSection p s.lines
  pub version : All (IsOfVersion 2) s.lines
  pub no_deletions : All IsNoDeletion s.lines
  pub first : s.first ≡ 1
  pub few : length s.lines ≤ 4294967294

-- the section refutes the problem, the grammar of logs of version 2 can spell its lines, and each line but the last is
-- needed later
pub record IsRefutationOf (p : Problem) (s : Section) : Type 0 where
  pub valid : IsValidSection p s.lines
  pub spelled : All (IsSpelledLine 2) s.lines
  pub no_deletions : All IsNoDeletion s.lines
  pub first : s.first ≡ 1
  pub few : length s.lines ≤ 4294967294
  pub trimmed : IsTrimmed s.lines

abbrev pub IsAnswer : Problem → Answer → Type 0
IsAnswer p (Model s) = IsModelOf p s
IsAnswer p (Refutation s) = IsRefutationOf p s
