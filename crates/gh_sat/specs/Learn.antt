-- Learnt clauses.
use Rattle.std.specs.Prelude.{◌≡◌, ◌⊎◌, ℕ, suc, ◌+◌, ◌<◌, ◌≤◌, if◌then◌else◌, List, [], ◌∷◌, ◌++◌, All, Contains, Some}
use Rattle.std.specs.Prelude.{length, map, take, drop, slice_get, slice_index_or, cond, nat_eq, Option}
use Rattle.std.specs.List.{cons_option}
use Rattle.gh_base.specs.declared.atom.Lit.{Lit}
use Rattle.gh_base.specs.Atoms.{opposite}
use Rattle.gh_base.specs.Propagation.{FollowsByUnits}
use Rattle.gh_base.specs.Hints.{IsShownByHints}
use Rattle.gh_sat.specs.declared.trail.Step.{Step}
use Rattle.gh_sat.specs.declared.marks.Marks.{Marks}
use Rattle.gh_sat.specs.Trail.{SearchState, cut, Stands, IsFalseIn, IsReason, IsUnitIn}

-- The least set of places on the trail that has those of the conflict's literals and, where it has a place not before
-- `from`, the places of the other literals of the reason of the step at that place.
pub data Reached (clauses : List (List Lit)) (trail : List Step) (conflict : List Lit) (from : ℕ) : ℕ → Type 0 where
  by_conflict : (j : ℕ) (x : Step) → slice_get trail j ≡ Some x → Contains conflict (opposite x.lit)
      → Reached clauses trail conflict from j
  by_reason : (i : ℕ) (y : Step) (k : ℕ) (c : List Lit) (j : ℕ) (x : Step) → from ≤ i → slice_get trail i ≡ Some y
      → y.reason ≡ Some k → slice_get clauses k ≡ Some c
      → slice_get trail j ≡ Some x → Contains c (opposite x.lit) → Reached clauses trail conflict from i
      → Reached clauses trail conflict from j

-- A unique implication point: from the conflict each way back through reasons meets this place of the present level,
-- and no earlier place of that level before it.
pub record IsPoint (s : SearchState) (conflict : List Lit) (place : ℕ) : Type 0 where
  pub present : (x : Step) × (slice_get s.trail place ≡ Some x) × (x.level ≡ length s.starts)
  pub reached : Reached s.clauses s.trail conflict (suc place) place
  pub alone : (j : ℕ) (x : Step) → Reached s.clauses s.trail conflict (suc place) j → slice_get s.trail j ≡ Some x
      → x.level ≡ length s.starts → j ≤ place → j ≡ place

-- the unique implication point that is met first
pub record IsFirstPoint (s : SearchState) (conflict : List Lit) (place : ℕ) : Type 0 where
  pub is : IsPoint s conflict place
  pub first : (q : ℕ) → place < q → IsPoint s conflict q → ⊥

-- the clause has just the opposites of the literals at the point and before it that are reached by the reasons of the
-- steps after it
pub record IsClauseOf (s : SearchState) (conflict : List Lit) (place : ℕ) (clause : List Lit) : Type 0 where
  pub only : All (λ l. (j : ℕ) × (x : Step) × (j ≤ place) × (slice_get s.trail j ≡ Some x) × (x.lit ≡ opposite l)
      × Reached s.clauses s.trail conflict (suc place) j) clause
  pub all : (j : ℕ) (x : Step) → j ≤ place → slice_get s.trail j ≡ Some x
      → Reached s.clauses s.trail conflict (suc place) j → Contains clause (opposite x.lit)

-- the clause of number k is false, and above level 0 it has a literal of the present level
pub record IsConflictAt (s : SearchState) (k : ℕ) : Type 0 where
  pub clause : List Lit
  pub at : slice_get s.clauses k ≡ Some clause
  pub is_false : IsFalseIn s.trail clause
  pub present : 0 < length s.starts
      → (l : Lit) × Contains clause l × (i : ℕ) × (x : Step) × (slice_get s.trail i ≡ Some x) × (x.lit ≡ opposite l)
      × (x.level ≡ length s.starts)

-- What is learnt from clause k: the clause of the first unique implication point. It follows by unit propagation and
-- is false; its literals but the unit became false at the level or below, the unit at the present one.
pub record IsLearnt (s : SearchState) (k : ℕ) (clause : List Lit) (level : ℕ) (unit : Lit) : Type 0 where
  pub conflict : List Lit
  pub at : slice_get s.clauses k ≡ Some conflict
  pub place : ℕ
  pub point : IsFirstPoint s conflict place
  pub of_point : IsClauseOf s conflict place clause
  pub follows : FollowsByUnits s.clauses clause
  pub is_false : IsFalseIn s.trail clause
  pub there : Contains clause unit
  pub present : (x : Step) × (slice_get s.trail place ≡ Some x) × (x.lit ≡ opposite unit) × (x.level ≡ length s.starts)
  pub others : All (λ l. (l ≡ unit)
      ⊎ ((i : ℕ) × (x : Step) × (slice_get s.trail i ≡ Some x) × (x.lit ≡ opposite l) × (x.level ≤ level))) clause
  pub lower : level < length s.starts
  -- the level is the least such
  pub least : (level ≡ 0) ⊎ ((i : ℕ) × (x : Step) × (slice_get s.trail i ≡ Some x) × Contains clause (opposite x.lit)
      × (x.level ≡ level))
  -- after the cut it is unit
  pub unit_then : IsUnitIn (cut s level).trail clause unit

-- numbers of clauses that, taken as hints in this order, show a clause
pub record AreReasons (clauses : List (List Lit)) (numbers : List ℕ) (clause : List Lit) : Type 0 where
  pub within : All (λ k. k < length clauses) numbers
  pub shows : IsShownByHints (map (λ k. slice_index_or clauses k []) numbers) clause

abbrev pub add_clause : SearchState → List Lit → SearchState
add_clause s c = record s { clauses = s.clauses ++ c ∷ [] }

-- the greatest level of a false clause's literals
pub record IsTop (trail : List Step) (clause : List Lit) (top : ℕ) : Type 0 where
  pub all : All (λ l. (i : ℕ) × (x : Step) × (slice_get trail i ≡ Some x) × (x.lit ≡ opposite l) × (x.level ≤ top))
      clause
  pub some : (top ≡ 0) ⊎ ((l : Lit) × Contains clause l × (i : ℕ) × (x : Step) × (slice_get trail i ≡ Some x)
      × (x.lit ≡ opposite l) × (x.level ≡ top))

-- the fields of a `Marks`
pub record Marking : Type 0 where
  pub stamps : List ℕ
  pub round : ℕ
  pub lower : List Lit
  pub level : ℕ
  pub start : ℕ
  pub end : ℕ
  pub waiting : ℕ

abbrev pub marks_of : Marks → Marking
marks_of m = record {
  stamps = m.stamps.items;
  round = m.round;
  lower = m.lower.items;
  level = m.level;
  start = m.start;
  end = m.end;
  waiting = m.waiting;
}

-- the place has the mark of this round
abbrev pub HasRound : Marking → ℕ → Type 0
HasRound m j = slice_get m.stamps j ≡ Some m.round

-- the place of the literal's atom has the mark of this round
abbrev pub HasMark : List Step → Marking → Lit → Type 0
HasMark trail m l = (j : ℕ) × (x : Step) × (slice_get trail j ≡ Some x) × (x.lit.atom ≡ l.atom) × HasRound m j

-- .. or the literal is false by a step before the end
abbrev pub IsMarkedOrFalse : List Step → Marking → Lit → Type 0
IsMarkedOrFalse trail m l = HasMark trail m l ⊎ Stands trail m.end (opposite l)

abbrev pub AllMarked : List Step → Marking → List Lit → Type 0
AllMarked trail m clause = All (λ l. HasMark trail m l) clause

-- 1 where the stamp is that of the round, else 0
abbrev pub one_if : ℕ → ℕ → ℕ
one_if stamp round = cond (nat_eq stamp round) 1 0

-- how many places have the mark of the round
abbrev pub marked : ℕ → List ℕ → ℕ
marked round [] = 0
marked round (s ∷ ss) = one_if s round + marked round ss

-- .. from the start to a place
abbrev pub marked_before : Marking → ℕ → ℕ
marked_before m place = marked m.round (drop m.start (take place m.stamps))

-- no stamp is of a later round
abbrev pub IsBounded : Marking → Type 0
IsBounded m = All (λ s. s ≤ m.round) m.stamps

-- the marked literals before the start stand in `lower`, with their greatest level; the marks from there to the end
-- are counted
pub record AreMarks (trail : List Step) (m : Marking) : Type 0 where
  pub start : m.start ≤ m.end
  pub end : m.end ≤ length trail
  pub long : length trail ≤ length m.stamps
  pub lower : All (λ l. (j : ℕ) × (x : Step) × (j < m.start) × (slice_get trail j ≡ Some x) × (x.lit ≡ opposite l)
      × (x.level ≤ m.level) × HasRound m j) m.lower
  pub lower_all : (j : ℕ) (x : Step) → j < m.start → slice_get trail j ≡ Some x → HasRound m j
      → Contains m.lower (opposite x.lit)
  pub greatest : (m.level ≡ 0) ⊎ ((j : ℕ) × (x : Step) × (j < m.start) × (slice_get trail j ≡ Some x)
      × Contains m.lower (opposite x.lit) × (x.level ≡ m.level))
  pub waiting : m.waiting ≡ marked m.round (drop m.start (take m.end m.stamps))

-- these are marks, with this start and end, of each trail for which there is room
abbrev pub AreMarksWithin : ℕ → ℕ → ℕ → Marking → Type 0
AreMarksWithin start end room m =
    (trail : List Step) → start ≤ end → end ≤ length trail → length trail ≤ room → AreMarks trail m

-- a literal of the clause is false by a step from this place on
abbrev pub IsPresent : List Step → ℕ → List Lit → Type 0
IsPresent trail start clause =
    (l : Lit) × Contains clause l × (j : ℕ) × (x : Step) × (start ≤ j) × (slice_get trail j ≡ Some x)
    × (x.lit ≡ opposite l)

-- marks were only added, to places before the end of literals of the clause that are false
pub record MarksMore (trail : List Step) (clause : List Lit) (old new : Marking) : Type 0 where
  pub round : new.round ≡ old.round
  pub start : new.start ≡ old.start
  pub end : new.end ≡ old.end
  pub long : length new.stamps ≡ length old.stamps
  pub bounded : IsBounded new
  pub keeps : (j : ℕ) → HasRound old j → HasRound new j
  pub only : (j : ℕ) → HasRound new j
      → HasRound old j ⊎ ((x : Step) × (j < old.end) × (slice_get trail j ≡ Some x) × Contains clause (opposite x.lit))
  pub waiting : old.waiting ≤ new.waiting

-- the marked step's reason has its literals marked
abbrev pub IsResolved : List (List Lit) → List Step → Marking → Step → Type 0
IsResolved clauses trail m x =
    (k : ℕ) × (c : List Lit) × (x.reason ≡ Some k) × (slice_get clauses k ≡ Some c) × AllMarked trail m c

abbrev pub ResolvedFrom : List (List Lit) → List Step → Marking → ℕ → Type 0
ResolvedFrom clauses trail m place =
    (j : ℕ) (x : Step) → place ≤ j → slice_get trail j ≡ Some x → HasRound m j → IsResolved clauses trail m x

-- what is marked is reached by resolving from this place on
abbrev pub AreReached : List (List Lit) → List Step → List Lit → Marking → ℕ → Type 0
AreReached clauses trail conflict m from = (j : ℕ) → HasRound m j → Reached clauses trail conflict from j

-- each step after the start has its reason
abbrev pub HaveReasons : List (List Lit) → List Step → ℕ → Type 0
HaveReasons clauses trail start =
    (i : ℕ) (x : Step) → slice_get trail i ≡ Some x → start < i
    → (k : ℕ) × (x.reason ≡ Some k) × IsReason clauses trail i x.lit k

-- each step has one
abbrev pub AllHaveReasons : List (List Lit) → List Step → Type 0
AllHaveReasons clauses trail =
    (i : ℕ) (x : Step) → slice_get trail i ≡ Some x → (k : ℕ) × (x.reason ≡ Some k) × IsReason clauses trail i x.lit k

-- the reasons of those steps whose stamps are of the round, in the order of the steps
abbrev pub reasons_of : ℕ → List ℕ → List Step → List ℕ
reasons_of round [] steps = []
reasons_of round (s ∷ ss) [] = []
reasons_of round (s ∷ ss) (x ∷ xs) =
    if nat_eq s round then cons_option x.reason (reasons_of round ss xs) else reasons_of round ss xs

-- .. of the marked steps from a place on
abbrev pub marked_reasons : Marks → List Step → ℕ → List ℕ
marked_reasons m steps place = reasons_of m.round (drop place m.stamps.items) (drop place steps)

-- this is the first of them where the step at the place is marked and has one
abbrev pub IsMarkedReason : Marks → List Step → ℕ → Option ℕ → Type 0
IsMarkedReason m steps place reason =
    marked_reasons m steps place ≡ cons_option reason (marked_reasons m steps (place + 1))

-- the one place from the start on to which resolving later places leads
pub record IsAlone (clauses : List (List Lit)) (trail : List Step) (conflict : List Lit)
    (start place : ℕ) : Type 0 where
  pub reached : Reached clauses trail conflict (suc place) place
  pub alone : (j : ℕ) → Reached clauses trail conflict (suc place) j → start ≤ j → j ≤ place → j ≡ place

-- the one marked step from the start on that is left
pub record IsLastMarked (clauses : List (List Lit)) (trail : List Step) (conflict : List Lit) (m : Marking)
    (place : ℕ) : Type 0 where
  pub step : Step
  pub at : slice_get trail place ≡ Some step
  pub is : HasRound m place
  pub low : m.start ≤ place
  pub marks : AreMarks trail m
  pub end : m.end ≡ place
  pub none : m.waiting ≡ 0
  pub all : AllMarked trail m conflict
  pub resolved : ResolvedFrom clauses trail m (place + 1)
  pub reached : AreReached clauses trail conflict m (place + 1)
  pub first : (q : ℕ) → place < q → IsAlone clauses trail conflict m.start q → ⊥
