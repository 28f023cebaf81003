-- What unit propagation does over a clause database.
use Rattle.std.specs.Prelude.{◌≡◌, ◌⊎◌, ℕ, ◌<◌, ◌≤◌, IsTrue, List, [], Bool, Some, All, length, slice_get}
use Rattle.gh_base.specs.declared.atom.Lit.{Lit}
use Rattle.gh_base.specs.Atoms.{AreInRange}
use Rattle.gh_sat.specs.declared.propagation.Database.{Database}
use Rattle.gh_sat.specs.declared.trail.Step.{Step}
use Rattle.gh_sat.specs.Trail.{Line, AreSteps}
use Rattle.gh_sat.specs.Status.{IsGuarded, Grows}
use Rattle.gh_sat.specs.Watch.{AreGuarded, AreVisited}

-- the clauses are in range, and the trail is one
pub record IsReady (d : Database) (t : Line) : Type 0 where
  pub range : All (AreInRange t.sizes) d.clauses.now
  pub valid : AreSteps t

-- steps were only added, each when it was forced
pub record Propagates (d : Database) (level : ℕ) (old new : Line) : Type 0 where
  pub valid : AreSteps new
  pub sizes : new.sizes ≡ old.sizes
  pub grows : Grows d.clauses.now level old.steps new.steps

-- clauses that were looked at stay guarded while the trail and the number of those clauses change
abbrev pub GuardsMore : Database → Line → Line → ℕ → ℕ → Type 0
GuardsMore d old new old_looked new_looked = (head : ℕ) → head ≤ length old.steps
    → AreGuarded d.clauses.now old.steps head old_looked → AreGuarded d.clauses.now new.steps head new_looked

-- .. and the place up to which the trail is known changes
abbrev pub GuardsFurther : Database → Line → Line → ℕ → ℕ → Type 0
GuardsFurther d old new old_head new_head = (looked : ℕ)
    → AreGuarded d.clauses.now old.steps old_head looked → AreGuarded d.clauses.now new.steps new_head looked

-- the clause of a number is told false, or it is guarded
abbrev pub IsFalseOrGuarded : Database → List Step → ℕ → Bool → Type 0
IsFalseOrGuarded d trail k is_false =
    (c : List Lit) → slice_get d.clauses.now k ≡ Some c → IsTrue is_false ⊎ IsGuarded trail trail c

-- after visits of a list of clauses none of them is left
abbrev pub VisitsAll : Database → Line → Line → List ℕ → Type 0
VisitsAll d old new list = (head looked : ℕ) → head < length old.steps
    → AreVisited d.clauses.now old.steps head looked list → AreVisited d.clauses.now new.steps head looked []
