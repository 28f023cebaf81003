-- The trail of a search: the literals that are true, in the order in which they became so, and the levels that
-- decisions open.
use Rattle.std.specs.Prelude.{◌≡◌, ◌≢◌, ◌⊎◌, ℕ, zero, suc, ◌+◌, ◌<◌, ◌≤◌, List, [], ◌∷◌}
use Rattle.std.specs.Prelude.{◌++◌, All, Contains, Bool, true, false, Option, Some, None, length, take, slice_get}
use Rattle.gh_base.specs.declared.atom.Atom.{Atom}
use Rattle.gh_base.specs.declared.atom.Lit.{Lit}
use Rattle.gh_base.specs.declared.sizes.Sizes.{Sizes}
use Rattle.gh_base.specs.Atoms.{opposite, IsInRange, AreInRange, number_of, count_of}
use Rattle.gh_base.specs.Assignments.{Partial, value_of}
use Rattle.gh_sat.specs.declared.trail.Step.{Step}

-- what callers see of a `Trail`: its sizes and its steps
pub record Line : Type 0 where
  pub sizes : Sizes
  pub steps : List Step

-- what callers see of a search: `starts` has the place at which level 1, 2, .. begins
pub record SearchState : Type 0 where
  pub sizes : Sizes
  pub clauses : List (List Lit)
  pub trail : List Step
  pub starts : List ℕ

-- the most clauses of a search: 32 bits then number a line for each, a last line, and the place after it
abbrev pub most_clauses : ℕ
most_clauses = 4294967293

-- the literal is true by a step before place i
abbrev pub Stands : List Step → ℕ → Lit → Type 0
Stands trail i l = (j : ℕ) × (x : Step) × (j < i) × (slice_get trail j ≡ Some x) × (x.lit ≡ l)

abbrev pub IsTrueIn : List Step → Lit → Type 0
IsTrueIn trail l = Stands trail (length trail) l

abbrev pub IsLitFalse : List Step → Lit → Type 0
IsLitFalse trail l = IsTrueIn trail (opposite l)

-- each literal is false
abbrev pub IsFalseIn : List Step → List Lit → Type 0
IsFalseIn trail clause = All (λ m. IsTrueIn trail (opposite m)) clause

-- the atom has no truth
abbrev pub IsFree : List Step → Atom → Type 0
IsFree trail a = (i : ℕ) (x : Step) → slice_get trail i ≡ Some x → x.lit.atom ≢ a

-- no atom in range is without a truth
abbrev pub AllHaveTruth : Sizes → List Step → Type 0
AllHaveTruth s trail = (a : Atom) → IsInRange s a → IsFree trail a → ⊥

-- where the atom stands, it stands at this place
abbrev pub StandsOnlyAt : List Step → Atom → ℕ → Type 0
StandsOnlyAt trail a place = (i : ℕ) (x : Step) → slice_get trail i ≡ Some x → x.lit.atom ≡ a → place ≡ i

-- one literal has no truth, and the others are false
pub record IsUnitIn (trail : List Step) (clause : List Lit) (unit : Lit) : Type 0 where
  pub there : Contains clause unit
  pub free : IsFree trail unit.atom
  pub others : All (λ l. (l ≡ unit) ⊎ IsTrueIn trail (opposite l)) clause

-- the truth of a literal
abbrev pub IsTruth : List Step → Lit → Option Bool → Type 0
IsTruth trail l (Some true) = IsTrueIn trail l
IsTruth trail l (Some false) = IsTrueIn trail (opposite l)
IsTruth trail l None = IsFree trail l.atom

-- each atom is in range and stands once
pub record AreSteps (t : Line) : Type 0 where
  pub range : (i : ℕ) (x : Step) → slice_get t.steps i ≡ Some x → IsInRange t.sizes x.lit.atom
  pub apart : (i : ℕ) (x : Step) (j : ℕ) (y : Step) → slice_get t.steps i ≡ Some x → slice_get t.steps j ≡ Some y
      → x.lit.atom ≡ y.lit.atom → i ≡ j
  pub few : length t.steps ≤ count_of t.sizes
  pub small : count_of t.sizes ≤ 4294967294

-- clause k has the literal, and its other literals are false before place i
pub record IsReason (clauses : List (List Lit)) (trail : List Step) (i : ℕ) (lit : Lit) (k : ℕ) : Type 0 where
  pub clause : List Lit
  pub at : slice_get clauses k ≡ Some clause
  pub there : Contains clause lit
  pub others : All (λ m. (m ≡ lit) ⊎ Stands trail i (opposite m)) clause

-- place i is where the level begins
abbrev pub IsLevelStart : List ℕ → ℕ → ℕ → Type 0
IsLevelStart starts level i = (below : ℕ) × (level ≡ suc below) × (slice_get starts below ≡ Some i)

-- the literal at place i opens its level, or follows by the clause that is its reason
abbrev pub IsOpenedOrForced : List (List Lit) → List Step → List ℕ → ℕ → Lit → ℕ → Option ℕ → Type 0
IsOpenedOrForced clauses trail starts i lit level None = IsLevelStart starts level i
IsOpenedOrForced clauses trail starts i lit level (Some k) = IsReason clauses trail i lit k

-- what is true of every search
pub record IsSound (s : SearchState) : Type 0 where
  pub in_range : All (AreInRange s.sizes) s.clauses
  pub steps : AreSteps (record { sizes = s.sizes; steps = s.trail })
  -- a decision opens its level, and each other literal has its reason
  pub caused : (i : ℕ) (x : Step) → slice_get s.trail i ≡ Some x
      → IsOpenedOrForced s.clauses s.trail s.starts i x.lit x.level x.reason
  pub leveled : (i : ℕ) (x : Step) → slice_get s.trail i ≡ Some x → x.level ≤ length s.starts
  -- the steps before a level's start are those of lower levels
  pub split : (i : ℕ) (x : Step) (level start : ℕ) → slice_get s.trail i ≡ Some x
      → slice_get s.starts level ≡ Some start
      → (x.level ≤ level → i < start) × (i < start → x.level ≤ level)
  pub few : length s.starts ≤ length s.trail
  -- each level has the step that opened it
  pub starts : (level start : ℕ) → slice_get s.starts level ≡ Some start
      → (level ≤ start) × (x : Step) × (slice_get s.trail start ≡ Some x) × (x.level ≡ suc level)

-- how many entries have no truth
abbrev pub unassigned : List (Option Bool) → ℕ
unassigned [] = 0
unassigned (None ∷ vs) = suc (unassigned vs)
unassigned (Some b ∷ vs) = unassigned vs

-- the table of truth is that of the trail
pub record AreValues (p : Partial) (trail : List Step) : Type 0 where
  pub range : (i : ℕ) (x : Step) → slice_get trail i ≡ Some x → IsInRange p.sizes x.lit.atom
  pub on : (i : ℕ) (x : Step) → slice_get trail i ≡ Some x
      → slice_get p.values (number_of p.sizes x.lit.atom) ≡ Some (Some x.lit.positive)
  pub back : (l : Lit) → IsInRange p.sizes l.atom
      → slice_get p.values (number_of p.sizes l.atom) ≡ Some (Some l.positive) → IsTrueIn trail l
  pub apart : (i : ℕ) (x : Step) (j : ℕ) (y : Step) → slice_get trail i ≡ Some x → slice_get trail j ≡ Some y
      → x.lit.atom ≡ y.lit.atom → i ≡ j
  pub count : unassigned p.values + length trail ≡ length p.values
  pub long : length p.values ≡ count_of p.sizes
  pub small : count_of p.sizes ≤ 4294967294

-- the table of places by atom is that of the trail
abbrev pub ArePlaces : Sizes → List ℕ → List Step → Type 0
ArePlaces s places trail =
    (i : ℕ) (x : Step) → slice_get trail i ≡ Some x → slice_get places (number_of s x.lit.atom) ≡ Some i

-- the atom of this number has no truth
abbrev pub IsFreeAt : Partial → ℕ → Type 0
IsFreeAt p number = slice_get p.values number ≡ Some None

-- the atoms of the numbers below this one have a truth
abbrev pub IsPassed : Partial → ℕ → Type 0
IsPassed p end = (i : ℕ) → i < end → slice_get p.values i ≢ Some None

-- the tables are those of the trail, and all atoms have room
abbrev pub AreTrailTables : Partial → List ℕ → List Step → ℕ → Type 0
AreTrailTables p places trail room =
    AreValues p trail
    × ArePlaces p.sizes places trail
    × (length places ≡ count_of p.sizes)
    × (count_of p.sizes ≤ room)

-- an assignment that tells the truth of each literal by the trail
pub record IsAssignmentOf (p : Partial) (t : Line) : Type 0 where
  pub sizes : p.sizes ≡ t.sizes
  pub tells : (l : Lit) → IsInRange t.sizes l.atom → IsTruth t.steps l (value_of p l)

-- some clauses, and nothing on the trail
abbrev pub search_over : Sizes → List (List Lit) → SearchState
search_over s clauses = record { sizes = s; clauses = clauses; trail = []; starts = [] }

-- the place at which the levels above this one begin, or n where there is none
abbrev pub end_of : List ℕ → ℕ → ℕ → ℕ
end_of [] level n = n
end_of (s ∷ ss) zero n = s
end_of (s ∷ ss) (suc level) n = end_of ss level n

-- the search after the levels above this one were taken off its trail
abbrev pub cut : SearchState → ℕ → SearchState
cut s level = record s { trail = take (end_of s.starts level (length s.trail)) s.trail; starts = take level s.starts }

abbrev pub push : Line → Step → Line
push t x = record t { steps = t.steps ++ x ∷ [] }

-- a level more, opened by its decision
abbrev pub open_level : SearchState → Lit → SearchState
open_level s lit =
    record s {
      trail = s.trail ++ (record { lit = lit; level = length s.starts + 1; reason = None }) ∷ [];
      starts = s.starts ++ length s.trail ∷ [];
    }

-- .. on an atom in range that had no truth
abbrev pub OpensLevel : SearchState → Lit → SearchState → Type 0
OpensLevel old lit new = IsInRange old.sizes lit.atom × IsFree old.trail lit.atom × (new ≡ open_level old lit)
