-- What a clause is under a trail, and unit propagation.
use Rattle.std.specs.Prelude.{◌≡◌, ◌≢◌, ◌⊎◌, ⊤, ℕ, List, [], ◌∷◌, ◌++◌, All, Any, Contains, Some, length}
use Rattle.std.specs.Prelude.{slice_get}
use Rattle.gh_base.specs.declared.atom.Atom.{Atom}
use Rattle.gh_base.specs.declared.atom.Lit.{Lit}
use Rattle.gh_base.specs.Atoms.{opposite}
use Rattle.gh_sat.specs.declared.trail.Step.{Step}
use Rattle.gh_sat.specs.declared.status.Status.{Status}
use Rattle.gh_sat.specs.declared.status.Status.TheVariants.{False, Unit as IsOne, Open}
use Rattle.gh_sat.specs.Trail.{SearchState, IsFree, IsTrueIn, IsFalseIn, IsUnitIn}

-- the clause is false, or unit
abbrev pub IsFalseOrUnit : List Step → List Lit → Type 0
IsFalseOrUnit trail clause = IsFalseIn trail clause ⊎ ((u : Lit) × IsUnitIn trail clause u)

abbrev pub IsStatus : List Step → List Lit → Status → Type 0
IsStatus trail clause False = IsFalseIn trail clause
IsStatus trail clause (IsOne unit) = IsUnitIn trail clause unit
IsStatus trail clause Open = IsFalseOrUnit trail clause → ⊥

-- two literals of the clause aren't false by the steps that are known
pub record HasPair (known : List Step) (clause : List Lit) : Type 0 where
  pub one : Lit
  pub other : Lit
  pub one_in : Contains clause one
  pub other_in : Contains clause other
  pub differ : one ≢ other
  pub one_open : IsTrueIn known (opposite one) → ⊥
  pub other_open : IsTrueIn known (opposite other) → ⊥

-- a literal of the clause is true
abbrev pub IsSatisfied : List Step → List Lit → Type 0
IsSatisfied trail clause = (l : Lit) × Contains clause l × IsTrueIn trail l

-- a literal of the clause is true, or two aren't false by what is known
abbrev pub IsGuarded : List Step → List Step → List Lit → Type 0
IsGuarded trail known clause = IsSatisfied trail clause ⊎ HasPair known clause

-- where the clause is open, it is guarded
abbrev pub GuardsOpen : List Step → List Lit → Status → Type 0
GuardsOpen trail clause Open = IsGuarded trail trail clause
GuardsOpen trail clause status = ⊤

-- the literal stands in the clause and isn't false
abbrev pub IsOpenIn : List Step → List Lit → Lit → Type 0
IsOpenIn trail clause l = Contains clause l × (IsTrueIn trail (opposite l) → ⊥)

-- so does another one
abbrev pub HasOtherOpen : List Step → List Lit → Lit → Type 0
HasOtherOpen trail clause one = (l : Lit) × (l ≢ one) × IsOpenIn trail clause l

abbrev pub IsSatisfiedOrFalse : List Step → List Lit → Type 0
IsSatisfiedOrFalse trail clause = IsSatisfied trail clause ⊎ IsFalseIn trail clause

-- each clause has a true literal
abbrev pub AreSatisfied : SearchState → Type 0
AreSatisfied s = All (IsSatisfied s.trail) s.clauses

-- the atom is that of a literal of the clause
abbrev pub HasAtom : List Lit → Atom → Type 0
HasAtom clause atom = Any (λ l. l.atom ≡ atom) clause

-- the atom occurs in a clause
abbrev pub OccursIn : List (List Lit) → Atom → Type 0
OccursIn clauses atom = Any (λ c. HasAtom c atom) clauses

-- no clause is false or unit
abbrev pub HasNoBad : List (List Lit) → List Step → Type 0
HasNoBad clauses trail = (k : ℕ) (c : List Lit) → slice_get clauses k ≡ Some c → IsFalseOrUnit trail c → ⊥

-- the same of a search
pub record IsSettled (s : SearchState) : Type 0 where
  pub no_false : (k : ℕ) (c : List Lit) → slice_get s.clauses k ≡ Some c → IsFalseIn s.trail c → ⊥
  pub no_unit : (k : ℕ) (c : List Lit) (u : Lit) → slice_get s.clauses k ≡ Some c → IsUnitIn s.trail c u → ⊥

-- the step has the one literal with no truth of a clause whose other literals are false, at this level
pub record IsForced (clauses : List (List Lit)) (at_level : ℕ) (trail : List Step) (x : Step) : Type 0 where
  pub number : ℕ
  pub clause : List Lit
  pub at : slice_get clauses number ≡ Some clause
  pub unit : IsUnitIn trail clause x.lit
  pub reason : x.reason ≡ Some number
  pub level : x.level ≡ at_level

-- the steps are added one by one, each when it is forced
abbrev pub AreForced : List (List Lit) → ℕ → List Step → List Step → Type 0
AreForced clauses level trail [] = Unit {0}
AreForced clauses level trail (x ∷ xs) = IsForced clauses level trail x × AreForced clauses level (trail ++ x ∷ []) xs

-- steps were only added, each when it was forced
abbrev pub Grows : List (List Lit) → ℕ → List Step → List Step → Type 0
Grows clauses level old new = (added : List Step) × (new ≡ old ++ added) × AreForced clauses level old added

-- the clause of this number is false
abbrev pub IsFalseClause : List (List Lit) → List Step → ℕ → Type 0
IsFalseClause clauses trail k = (c : List Lit) × (slice_get clauses k ≡ Some c) × IsFalseIn trail c

-- where the clause of a number is unit, its literal is put on the trail, and nothing else
abbrev pub PutsUnit : List (List Lit) → ℕ → List Step → List Step → ℕ → Type 0
PutsUnit clauses level old new k = (c : List Lit) (u : Lit) → slice_get clauses k ≡ Some c → IsUnitIn old c u
    → new ≡ old ++ (record { lit = u; level = level; reason = Some k }) ∷ []

-- the same of the last clause
abbrev pub PutsLast : List (List Lit) → ℕ → List Step → List Step → Type 0
PutsLast clauses level old new =
    (before : List (List Lit)) (c : List Lit) (u : Lit) → clauses ≡ before ++ c ∷ [] → IsUnitIn old c u
    → new ≡ old ++ (record { lit = u; level = level; reason = Some (length before) }) ∷ []

-- where the last clause is unit, its literal is put on the trail first
abbrev pub PutsLastFirst : List (List Lit) → ℕ → List Step → List Step → Type 0
PutsLastFirst clauses level old new =
    (before : List (List Lit)) (c : List Lit) (u : Lit) → clauses ≡ before ++ c ∷ [] → IsUnitIn old c u
    → (more : List Step) × (new ≡ old ++ (record { lit = u; level = level; reason = Some (length before) }) ∷ []
    ++ more)
