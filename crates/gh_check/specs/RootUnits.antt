-- Units at the root level: literals that stand from line to line.
use Rattle.std.specs.Prelude.{◌≡◌, ◌≢◌, ◌↔◌, ◌⊎◌, ◌∷◌, ◌++◌, [], ⊤, ℕ, List, map, Option, None, Bool, IsTrue, All}
use Rattle.std.specs.Prelude.{Contains, MatchOption, slice_index_or}
use Rattle.gh_base.specs.declared.atom.Lit.{Lit}
use Rattle.gh_base.specs.declared.sizes.Sizes.{Sizes}
use Rattle.gh_base.specs.Atoms.{opposite}
use Rattle.gh_base.specs.Hints.{IsRefutedByHints}
use Rattle.gh_base.specs.Propagation.{Propagated, FollowsByUnits}
use Rattle.gh_sat.specs.Theory.{IsRefutedBy}
use Rattle.gh_check.specs.Kept.{Kept, named, present, stands_in}
use Rattle.gh_check.specs.Truths.{IsConsistent, IsMetBy}
use Rattle.gh_check.specs.declared.root_units.RootUnits.{RootUnits}

-- propagation over the clauses gives each literal of the set, whatever is assumed
abbrev pub AreGivenBy : List (List Lit) → List Lit → Type 0
AreGivenBy clauses set = (assumed : List Lit) (l : Lit) → Contains set l → Propagated clauses assumed l

-- where the clauses give the literals of the old set, they give those of the new one
abbrev pub KeepsGiven : List (Option (List Lit)) → List Lit → List Lit → Type 0
KeepsGiven entries old new = AreGivenBy (present entries) old → AreGivenBy (present entries) new

-- the truths are over these numbers, and what stands is given by the clauses that are kept
pub record AreRootUnits (sizes : Sizes) (entries : List (Option (List Lit))) (s : RootUnits) : Type 0 where
  pub fixed : s.fixed.sizes ≡ sizes
  pub above : s.above.sizes ≡ sizes
  pub given : AreGivenBy (present entries) s.fixed.lits

-- what stands, where it was made
abbrev pub AreRootUnitsOf : Sizes → List (Option (List Lit)) → Option RootUnits → Type 0
AreRootUnitsOf sizes entries root_units = MatchOption root_units ⊤ (λ s. AreRootUnits sizes entries s)

-- the clauses at the positions, in order, refute the set
abbrev pub IsRefutedAt : Kept → List ℕ → List Lit → Type 0
IsRefutedAt k positions set = IsRefutedByHints (named k positions) set

-- the positions stand, and their clauses in order refute the opposites of the clause's literals beside the set, where
-- these aren't refuted by themselves
pub record IsConfirmedBy (k : Kept) (positions : List ℕ) (set clause : List Lit) : Type 0 where
  pub stand : All (λ position. IsTrue (stands_in k position)) positions
  pub refuted : IsMetBy set clause ⊎ IsRefutedAt k positions (set ++ map opposite clause)

-- the set doesn't make the clause false, and has the literal that the clause forces, if it forces one
pub record IsAtRest (set clause : List Lit) : Type 0 where
  pub not_false : IsRefutedBy set clause → ⊥
  pub forced : (l : Lit) → Contains clause l
      → ((m : Lit) → Contains clause m → m ≢ l → Contains set (opposite m)) → Contains set l

-- each clause that is there is at rest
abbrev pub AreAtRest : List Lit → List (Option (List Lit)) → Type 0
AreAtRest set entries = All (IsAtRest set) (present entries)

-- .. with the clause at a position
abbrev pub RestsAt : List Lit → List (Option (List Lit)) → ℕ → Type 0
RestsAt set entries position = AreAtRest set (slice_index_or entries position None ∷ [])

-- no literal and its opposite, and each clause that is there is at rest
pub record IsClosedBy (entries : List (Option (List Lit))) (set : List Lit) : Type 0 where
  pub consistent : IsConsistent set
  pub at_rest : AreAtRest set entries

-- the set makes the clause false, and is closed so
pub record IsRefusedBy (entries : List (Option (List Lit))) (set clause : List Lit) : Type 0 where
  pub falsified : IsRefutedBy set clause
  pub closed : IsClosedBy entries set

-- whether propagation over the clauses shows a clause, where that is told
abbrev pub IsJudged : List (List Lit) → List Lit → Option Bool → Type 0
IsJudged clauses clause told = MatchOption told ⊤ (λ b. IsTrue b ↔ FollowsByUnits clauses clause)

-- what was right over some clauses, if it was made, is so in its new place
abbrev pub KeepsRootUnits : Sizes → Option RootUnits → RootUnits → Type 0
KeepsRootUnits sizes old new =
    (entries : List (Option (List Lit))) → AreRootUnitsOf sizes entries old → AreRootUnits sizes entries new
