-- Clauses with a true literal.
use Rattle.std.proofs.Common.{◌≡◌, ◌<◌, ◌≤◌, ◌+◌, ℕ, List, All, Option, Some, None, Bool, false, length, take, subst}
use Rattle.std.proofs.Common.{take_all, get_or, inl, inr}
use Rattle.std.specs.Prelude.{is_some, IfNone}
use Rattle.std.proofs.lemmas.List.Elements.{All-more}
use Rattle.std.proofs.lemmas.Option.{slice_get-get_or}
use Rattle.gh_base.specs.declared.atom.Atom.{Atom}
use Rattle.gh_base.specs.declared.atom.Lit.{Lit}
use Rattle.gh_sat.specs.declared.trail.Step.{Step}
use Rattle.gh_sat.specs.Status.{IsSettled, IsSatisfied, IsSatisfiedOrFalse}
use Rattle.gh_sat.specs.Trail.{SearchState}

pub all_taken : {X : Type 0} (P : X → Type 0) (xs : List X) (i : ℕ) → length xs ≤ i → All P (take i xs) → All P xs
all_taken P xs i le all = subst (All P) (take_all i xs le) all

none_of : (o : Option Atom) (P : Type 0) → is_some o ≡ false → IfNone o P → P
none_of None P e holds = holds
none_of (Some a) P e holds = cc

-- a clause more with a true literal, or false
pub clause_more : (trail : List Step) (clauses : List (List Lit)) (i : ℕ) (item lits : List Lit) (o : Option Atom)
    → i < length clauses → All (IsSatisfiedOrFalse trail) (take i clauses) → lits ≡ get_or clauses i item
    → IfNone o (IsSatisfiedOrFalse trail lits) → is_some o ≡ false
    → All (IsSatisfiedOrFalse trail) (take (i + 1) clauses)
clause_more trail clauses i item lits o lt all same none e =
    All-more (IsSatisfiedOrFalse trail) clauses i item lt all
    (subst (IsSatisfiedOrFalse trail) same (none_of o (IsSatisfiedOrFalse trail lits) e none))

-- where no clause is false, each that is false or has a true literal has one
pub all_satisfied : (s : SearchState) → IsSettled s → All (IsSatisfiedOrFalse s.trail) s.clauses
    → All (IsSatisfied s.trail) s.clauses
all_satisfied s calm h k d lt =
    elim (h k d lt) as (λ _. IsSatisfied s.trail (get_or s.clauses k d)) [
      | inl w ↦ w
      | inr f ↦ absurd (calm.no_false k (get_or s.clauses k d) (slice_get-get_or s.clauses k d lt) f)
    ]
