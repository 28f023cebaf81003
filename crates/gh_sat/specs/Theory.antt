-- A theory beside the clauses.
use Rattle.std.specs.Prelude.{◌≡◌, ◌≢◌, ◌⊎◌, ℕ, ◌≤◌, List, [], ◌∷◌, ◌++◌, All, Contains, Option, Some, length, take}
use Rattle.std.specs.Prelude.{map, slice_get}
use Rattle.gh_base.specs.declared.atom.Atom.{Atom}
use Rattle.gh_base.specs.declared.atom.Lit.{Lit}
use Rattle.gh_base.specs.declared.sizes.Sizes.{Sizes}
use Rattle.gh_base.specs.Atoms.{opposite}
use Rattle.gh_sat.specs.declared.trail.Step.{Step}
use Rattle.gh_sat.specs.Trail.{SearchState, IsFalseIn}
use Rattle.gh_sat.specs.Status.{Grows}
use Rattle.gh_sat.specs.Learn.{add_clause}

-- the opposite of each literal of the clause stands asserted
abbrev pub IsRefutedBy : List Lit → List Lit → Type 0
IsRefutedBy asserted clause = All (λ l. Contains asserted (opposite l)) clause

-- a clause of the theory is refuted by what is asserted
abbrev pub RefutesOne : (List Lit → Type 0) → List Lit → List Lit → Type 0
RefutesOne valid asserted clause = valid clause × IsRefutedBy asserted clause

-- no clause of the theory is refuted
abbrev pub HasNoRefuted : (List Lit → Type 0) → List Lit → Type 0
HasNoRefuted valid asserted = (c : List Lit) → valid c → IsRefutedBy asserted c → ⊥

-- the atom stands in none of the literals
abbrev pub HasNoLit : List Lit → Atom → Type 0
HasNoLit lits atom = All (λ l. l.atom ≢ atom) lits

abbrev pub lits_of : List Step → List Lit
lits_of trail = map (λ (x : Step). x.lit) trail

-- a front of the trail is asserted
abbrev pub IsAsserted : List Lit → List Step → Type 0
IsAsserted asserted trail = (n : ℕ) × (n ≤ length trail) × (asserted ≡ lits_of (take n trail))

-- no clause of the theory is false
abbrev pub HasNoConflict : (List Lit → Type 0) → List Step → Type 0
HasNoConflict valid trail = (c : List Lit) → valid c → IsFalseIn trail c → ⊥

-- no clause of the theory was false when a level was opened
abbrev pub WereConsistent : (List Lit → Type 0) → List Step → List ℕ → Type 0
WereConsistent valid trail starts =
    (level start : ℕ) → slice_get starts level ≡ Some start → HasNoConflict valid (take start trail)

-- no clause of a theory over the sizes of a search is false
abbrev pub IsConsistentWith : (Sizes → List Lit → Type 0) → SearchState → Type 0
IsConsistentWith valid s = HasNoConflict (valid s.sizes) s.trail

-- a theory over the sizes of a search is told a front of its trail, and had no conflict when a level was opened
abbrev pub IsBeside : (Sizes → List Lit → Type 0) → List Lit → Sizes → SearchState → Type 0
IsBeside valid asserted sizes s =
    IsAsserted asserted s.trail × (sizes ≡ s.sizes) × WereConsistent (valid s.sizes) s.trail s.starts

-- a clause of the theory is added
abbrev pub AddsValid : (List Lit → Type 0) → SearchState → SearchState → Type 0
AddsValid valid old new = (c : List Lit) × valid c × (new ≡ add_clause old c)

-- literals were only added to the trail, each when it was the one with no truth of a clause whose others are false, and
-- at most one clause, of the theory, whose number is the answer
pub record PropagatesBeside (valid : List Lit → Type 0) (old new : SearchState) (answer : Option ℕ) : Type 0 where
  pub sizes : new.sizes ≡ old.sizes
  pub starts : new.starts ≡ old.starts
  pub grows : Grows old.clauses (length old.starts) old.trail new.trail
  pub clauses : (new.clauses ≡ old.clauses)
      ⊎ ((c : List Lit) × valid c × (new.clauses ≡ old.clauses ++ c ∷ []) × (answer ≡ Some (length old.clauses)))
