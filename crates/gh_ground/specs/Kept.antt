-- What a solver keeps: a line of a section for each clause of its search.
use Rattle.std.specs.Prelude.{◌≡◌, ◌++◌, ⊤, ℕ, List, [], Option, Some, None, map, All, Contains, IfSome, IfNone}
use Rattle.gh_base.specs.declared.atom.Lit.{Lit}
use Rattle.gh_base.specs.Grounds.{Problem, IsProblem}
use Rattle.gh_base.specs.Meaning.{IsEqualityClause}
use Rattle.gh_base.specs.Structures.{Tables}
use Rattle.gh_cc.specs.Asserted.{IsConsistent}
use Rattle.gh_inst.specs.declared.naming.InstanceName.{InstanceName}
use Rattle.gh_inst.specs.Instances.{IsInstance}
use Rattle.gh_log.specs.Lines.{LogLine, Axiom}
use Rattle.gh_log.specs.Sections.{line_clause, AreOfKind}
use Rattle.gh_log.specs.Spelled.{IsOfVersion}
use Rattle.gh_ground.specs.declared.solver.Outcome.{Outcome}
use Rattle.gh_ground.specs.declared.solver.Outcome.TheVariants.{Model, Conflict}
use Rattle.gh_ground.specs.declared.solver.Turn.{Turn}
use Rattle.gh_ground.specs.declared.solver.Turn.TheVariants.{Ended, Answered}
use Rattle.gh_ground.specs.Solving.{IsModelOf, RefutesProblem}
use Rattle.gh_sat.specs.Learn.{IsConflictAt}
use Rattle.gh_sat.specs.Status.{IsSettled, AreSatisfied}
use Rattle.gh_sat.specs.Theory.{lits_of, HasNoConflict, PropagatesBeside}
use Rattle.gh_sat.specs.Trail.{SearchState, IsSound}

-- each clause of a search has its line, and those of the problem are among them
pub record HasLineEach (p : Problem) (s : SearchState) (lines : List LogLine) : Type 0 where
  pub problem : IsProblem p
  pub sizes : s.sizes ≡ p.sizes
  -- a line for each clause, at its number
  pub clauses : map (line_clause p) lines ≡ map Some s.clauses
  pub of_kind : AreOfKind p lines
  pub version : All (IsOfVersion 2) lines
  pub ground : (c : List Lit) → Contains p.clauses c → Contains s.clauses c

-- lines were added, and what was kept is
pub record KeepsLines (old : SearchState) (before : List LogLine) (new : SearchState)
    (after : List LogLine) : Type 0 where
  pub keeps : (p : Problem) → HasLineEach p old before → HasLineEach p new after
  pub more : List LogLine
  pub longer : after ≡ before ++ more

-- propagation beside equality and congruence, with its answer
abbrev pub Propagates : SearchState → SearchState → Option ℕ → Type 0
Propagates old new answer = PropagatesBeside (IsEqualityClause old.sizes) old new answer

-- what holds of a search after an answer of its propagation
pub record IsAnswered (s : SearchState) (answer : Option ℕ) : Type 0 where
  pub sound : IsSound s
  pub conflict : IfSome answer (IsConflictAt s)
  pub settled : IfNone answer (IsSettled s)
  pub consistent : IfNone answer (HasNoConflict (IsEqualityClause s.sizes) s.trail)
  pub known : IfNone answer (IsConsistent s.sizes (lits_of s.trail))

-- each clause has a true literal, and the trail is consistent with equality and congruence
pub record IsUndecided (s : SearchState) : Type 0 where
  pub sound : IsSound s
  pub known : IsConsistent s.sizes (lits_of s.trail)
  pub satisfied : AreSatisfied s

-- the clause of number k is false at level 0
pub record IsFalseAtLevelZero (s : SearchState) (k : ℕ) : Type 0 where
  pub conflict : IsConflictAt s k
  pub first : s.starts ≡ []

-- the search is over, with such an answer of its last propagation
abbrev pub IsEnded : SearchState → Option ℕ → Type 0
IsEnded s None = IsUndecided s
IsEnded s (Some k) = IsFalseAtLevelZero s k

-- what holds of the answer that a turn came to
abbrev pub IfAnswered : Turn → (Option ℕ → Type 0) → Type 0
IfAnswered Ended P = ⊤
IfAnswered (Answered answer) P = P answer

-- what holds where a turn ended the search
abbrev pub IfEnded : Turn → Type 0 → Type 0
IfEnded Ended P = P
IfEnded (Answered answer) P = ⊤

-- a model of each problem whose lines these are
abbrev pub IsModelOfEach : SearchState → List LogLine → Tables → Type 0
IsModelOfEach s lines t = (p : Problem) → HasLineEach p s lines → IsModelOf p t

-- an instance that had no line has one
pub record AddsInstance (s : SearchState) (before after : List LogLine) : Type 0 where
  pub name : InstanceName
  pub instance : IsInstance s.sizes.terms s.sizes.versions name
  pub absent : Contains before (Axiom name) → ⊥
  pub there : Contains after (Axiom name)

-- what a search came to that began with such lines
abbrev pub IsOutcome : SearchState → List LogLine → SearchState → Outcome → Type 0
IsOutcome s lines after (Model t) = IsModelOfEach s lines t
IsOutcome s lines after (Conflict k) = IsFalseAtLevelZero after k

-- with what was added, the lines refute each problem whose lines they were
abbrev pub Refutes : SearchState → List LogLine → List LogLine → Type 0
Refutes s before after = (p : Problem) → HasLineEach p s before → RefutesProblem p (record { first = 1; lines = after })
