-- Errors with their places, and the first of some errors.
use Rattle.std.specs.Prelude.{◌≡◌, ℕ, ◌⊎◌, List, Any, Option, None, Some, MatchOption}
use Rattle.gh_base.specs.declared.place.Span.{Span}
use Rattle.gh_ast.specs.Rules.{GoesFirst, IsFirstError}
use Rattle.gh_types.specs.declared.fault.Fault.{Fault}

-- f goes before g, or is at the same place and has no greater number
abbrev pub FaultGoesFirst : Fault → Fault → Type 0
FaultGoesFirst f g = GoesFirst f.number f.span g.number g.span

-- what was found is the first of some errors, or there is none
pub record IsFirstOf (E : ℕ → Span → Type 0) (found : Option Fault) : Type 0 where
  pub says : MatchOption found ((n : ℕ) (s : Span) → E n s → ⊥) (λ f. IsFirstError E f.number f.span)

-- what was found is the first of the errors of the members of a list, or there is none
pub record IsFirstIn {X : Type 0} (E : X → ℕ → Span → Type 0) (xs : List X) (found : Option Fault) : Type 0 where
  pub says : IsFirstOf (λ n s. Any (λ x. E x n s) xs) found

-- the first of two, where there is one
abbrev pub IsEarlier : Option Fault → Option Fault → Option Fault → Type 0
IsEarlier None g found = found ≡ g
IsEarlier (Some f) None found = found ≡ Some f
IsEarlier (Some f) (Some g) found = (FaultGoesFirst f g × (found ≡ Some f)) ⊎ (FaultGoesFirst g f × (found ≡ Some g))
