-- Unit propagation, and clauses that it shows.
use Rattle.std.specs.Prelude.{◌≢◌, ◌⊎◌, List, All, Contains, map, Bool, IsTrue}
use Rattle.gh_base.specs.declared.atom.Lit.{Lit}
use Rattle.gh_base.specs.Atoms.{opposite}
use Rattle.gh_base.specs.Meaning.{Interpretation, IsClauseTrue}

-- The least set of literals that has some assumed ones and, where it has the opposites of all literals of a
-- clause but one, that one too.
pub data Propagated (clauses : List (List Lit)) (assumed : List Lit) : Lit → Type 0 where
  given : (l : Lit) → Contains assumed l → Propagated clauses assumed l
  forced : (c : List Lit) (l : Lit) → Contains clauses c → Contains c l
      → ((m : Lit) → Contains c m → m ≢ l → Propagated clauses assumed (opposite m)) → Propagated clauses assumed l

-- propagation gives a literal and its opposite, or the opposites of all literals of a clause
abbrev pub IsRefutedByUnits : List (List Lit) → List Lit → Type 0
IsRefutedByUnits clauses assumed =
    ((l : Lit) × Propagated clauses assumed l × Propagated clauses assumed (opposite l))
    ⊎ ((c : List Lit) × Contains clauses c × All (λ m. Propagated clauses assumed (opposite m)) c)

-- reverse unit propagation: propagation from the opposites of the clause's literals ends in a contradiction
abbrev pub FollowsByUnits : List (List Lit) → List Lit → Type 0
FollowsByUnits clauses clause = IsRefutedByUnits clauses (map opposite clause)

-- a set of literals that has the assumed ones, and is closed under unit propagation
pub record IsClosed (clauses : List (List Lit)) (assumed : List Lit) (set : Lit → Bool) : Type 0 where
  pub given : (l : Lit) → Contains assumed l → IsTrue (set l)
  pub forced : (c : List Lit) (l : Lit) → Contains clauses c → Contains c l
      → ((m : Lit) → Contains c m → m ≢ l → IsTrue (set (opposite m))) → IsTrue (set l)

-- what propagation gives stands in each closed set
abbrev pub IsLeast : Type 0
IsLeast =
    (clauses : List (List Lit)) (assumed : List Lit) (set : Lit → Bool) → IsClosed clauses assumed set
    → (l : Lit) → Propagated clauses assumed l → IsTrue (set l)

-- a clause that propagation over some clauses shows is true wherever these are
abbrev pub IsSound : Type 0
IsSound =
    (clauses : List (List Lit)) (clause : List Lit) (m : Interpretation) → All (IsClauseTrue m) clauses
    → FollowsByUnits clauses clause → IsClauseTrue m clause
