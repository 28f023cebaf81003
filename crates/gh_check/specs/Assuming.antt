-- What assumed literals give by unit propagation.
use Rattle.std.specs.Prelude.{◌≡◌, ◌≤◌, ℕ, List, [], Option, Some, Contains, slice_get, take, length, MatchOption}
use Rattle.gh_base.specs.declared.atom.Lit.{Lit}
use Rattle.gh_base.specs.Propagation.{Propagated, IsRefutedByUnits}
use Rattle.gh_sat.specs.declared.trail.Step.{Step}
use Rattle.gh_sat.specs.Trail.{SearchState, IsTrueIn, IsSound}
use Rattle.gh_sat.specs.Status.{IsSettled}
use Rattle.gh_base.specs.declared.sizes.Sizes.{Sizes}
use Rattle.gh_check.specs.Kept.{present}
use Rattle.gh_check.specs.declared.units.Units.{Units}

-- propagation from the assumed literals gives each literal of the trail
abbrev pub AreGiven : List (List Lit) → List Lit → List Step → Type 0
AreGiven clauses assumed trail = (i : ℕ) (x : Step) → slice_get trail i ≡ Some x → Propagated clauses assumed x.lit

-- where the literal is assumed too, propagation ends in a contradiction
abbrev pub IsRefuting : SearchState → Lit → Type 0
IsRefuting s lit =
    (assumed : List Lit) → Contains assumed lit → AreGiven s.clauses assumed s.trail
    → IsRefutedByUnits s.clauses assumed

-- the literal is true, and what is true more than before follows from it
pub record IsAssumed (old new : SearchState) (lit : Lit) : Type 0 where
  pub settled : IsSettled new
  pub sound : IsSound new
  pub there : IsTrueIn new.trail lit
  pub keeps : (l : Lit) → IsTrueIn old.trail l → IsTrueIn new.trail l
  pub given : (assumed : List Lit) → Contains assumed lit → AreGiven old.clauses assumed old.trail
      → AreGiven old.clauses assumed new.trail

-- a search with no clause
abbrev pub no_clauses : Sizes → SearchState
no_clauses sizes = record { sizes = sizes; clauses = []; trail = []; starts = [] }

-- a search at level 0 with these clauses
pub record HasClauses (sizes : Sizes) (clauses : List (List Lit)) (s : SearchState) : Type 0 where
  pub sizes_are : s.sizes ≡ sizes
  pub clauses_are : s.clauses ≡ clauses
  pub level : s.starts ≡ []

-- the search, if there is one, has the clauses of the first `taken` positions
pub record IsBehind (sizes : Sizes) (entries : List (Option (List Lit))) (u : Units) : Type 0 where
  pub within : u.taken ≤ length entries
  pub search : MatchOption u.search (u.taken ≡ 0) (λ s. HasClauses sizes (present (take u.taken entries)) s)
