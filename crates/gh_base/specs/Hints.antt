-- Clauses that hints show: unit propagation along a list of clauses, in its order.
use Rattle.std.specs.Prelude.{◌≢◌, ◌⊎◌, List, ◌∷◌, All, Contains, map}
use Rattle.gh_base.specs.declared.atom.Lit.{Lit}
use Rattle.gh_base.specs.Atoms.{opposite}
use Rattle.gh_base.specs.Meaning.{Interpretation, IsClauseTrue}
use Rattle.gh_base.specs.Propagation.{FollowsByUnits}

-- the clause has this literal, and the set has the opposites of all its literals but this one
pub record HasAllButOne (set clause : List Lit) (l : Lit) : Type 0 where
  pub there : Contains clause l
  pub missing : Contains set (opposite l) → ⊥
  pub others : (m : Lit) → Contains clause m → m ≢ l → Contains set (opposite m)

-- A set of literals comes to a contradiction by hints, in order: it has the opposites of all literals of the first
-- hint, or those of all but one, that one joins it, and it comes to a contradiction by the hints after the first.
pub data IsRefutedByHints : List (List Lit) → List Lit → Type 0 where
  refuted : (c : List Lit) (hints : List (List Lit)) (set : List Lit) → All (λ m. Contains set (opposite m)) c
      → IsRefutedByHints (c ∷ hints) set
  joined : (c : List Lit) (hints : List (List Lit)) (set : List Lit) (l : Lit) → HasAllButOne set c l
      → IsRefutedByHints hints (l ∷ set) → IsRefutedByHints (c ∷ hints) set

-- the opposites of the clause's literals hold a literal and its opposite, or come to a contradiction by the hints
abbrev pub IsShownByHints : List (List Lit) → List Lit → Type 0
IsShownByHints hints clause =
    ((l : Lit) × Contains (map opposite clause) l × Contains (map opposite clause) (opposite l))
    ⊎ IsRefutedByHints hints (map opposite clause)

-- what hints out of a list of clauses show follows from these clauses by unit propagation
abbrev pub HintsShowByUnits : Type 0
HintsShowByUnits =
    (clauses hints : List (List Lit)) (clause : List Lit) → All (Contains clauses) hints → IsShownByHints hints clause
    → FollowsByUnits clauses clause

-- what hints out of a list of clauses show is true wherever these clauses are
abbrev pub HintsShowTruth : Type 0
HintsShowTruth =
    (clauses hints : List (List Lit)) (clause : List Lit) (m : Interpretation) → All (Contains clauses) hints
    → All (IsClauseTrue m) clauses → IsShownByHints hints clause → IsClauseTrue m clause
