-- What holds of a search between its calls.
use Rattle.std.specs.Prelude.{◌≡◌, ◌⊎◌, ℕ, ◌*◌, ◌≤◌, List, Some, length, slice_get}
use Rattle.gh_base.specs.declared.atom.Lit.{Lit}
use Rattle.gh_base.specs.Atoms.{count_of}
use Rattle.gh_sat.specs.declared.trail.Step.{Step}
use Rattle.gh_sat.specs.Trail.{SearchState, IsFalseIn, IsSound, cut, most_clauses}
use Rattle.gh_sat.specs.Status.{Grows, PutsLastFirst}
use Rattle.gh_sat.specs.Watch.{AreGuarded, AreListed, WereGuarded, WereOpen}
use Rattle.gh_sat.specs.Learn.{IsTop, add_clause}

-- `counts` tells for each level how many clauses had been looked at when it was opened, `looked` clauses were looked
-- at, and the trail is propagated up to `head`
pub record IsUnderWay (s : SearchState) (counts : List ℕ) (looked head : ℕ) (lists : List (List ℕ)) : Type 0 where
  pub sound : IsSound s
  pub guarded : AreGuarded s.clauses s.trail head looked
  pub were_guarded : WereGuarded s.clauses s.trail s.starts counts
  pub were_open : WereOpen s
  pub listed : AreListed s.sizes s.clauses lists
  pub long : length lists ≡ 2 * count_of s.sizes
  pub within : looked ≤ length s.clauses
  pub before : head ≤ length s.trail
  pub counted : length counts ≡ length s.starts
  pub below : (level count : ℕ) → slice_get counts level ≡ Some count → count ≤ length s.clauses
  pub room : length s.clauses ≤ most_clauses

-- literals were only added to the trail, each when it was the one with no truth of a clause whose others are false
pub record PropagatesTo (old new : SearchState) : Type 0 where
  pub sizes : new.sizes ≡ old.sizes
  pub clauses : new.clauses ≡ old.clauses
  pub starts : new.starts ≡ old.starts
  pub grows : Grows old.clauses (length old.starts) old.trail new.trail

-- where the clause that was added last is unit, its literal was added first
abbrev pub GivesLast : SearchState → List Step → Type 0
GivesLast s new = PutsLastFirst s.clauses (length s.starts) s.trail new

-- a false clause is added last and the trail cut to the greatest level of its literals; any other one is added
abbrev pub AddsClause : SearchState → List Lit → SearchState → Type 0
AddsClause old clause new =
    ((top : ℕ) × IsFalseIn old.trail clause × IsTop old.trail clause top × (new ≡ add_clause (cut old top) clause))
    ⊎ ((IsFalseIn old.trail clause → ⊥) × (new ≡ add_clause old clause))
