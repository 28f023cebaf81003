-- The first k conditions of a program, and the limits that they pass.
use Rattle.std.specs.Prelude.{◌≡◌, ℕ, ◌+◌, ◌<◌, slice_get, Option, Some, None}
use Rattle.gh_ast.specs.Plain.{Procedure, Program}
use Rattle.gh_ast.specs.declared.typed.Limit.{Limit}
use Rattle.gh_path.specs.Admitted.{most_versions}
use Rattle.gh_path.specs.Conditions.{Condition, conditions, IsOf}
use Rattle.gh_symb.specs.Limits.{HasVersions, IsLimitOf}

-- none of them has the property
abbrev pub NoneMet : Program → (Procedure → Condition → Type 0) → ℕ → Type 0
NoneMet P Q k =
    (j : ℕ) (d : Condition) (proc : Procedure) → j < k → slice_get (conditions P) j ≡ Some d → IsOf P d proc → Q proc d
    → ⊥

-- the limit is that of the first of them that has it
pub record IsFirstMet (P : Program) (Q : Procedure → Condition → Type 0) (k kind count : ℕ) (l : Limit) : Type 0 where
  pub place : ℕ
  pub condition : Condition
  pub procedure : Procedure
  pub within : place < k
  pub at : slice_get (conditions P) place ≡ Some condition
  pub of : IsOf P condition procedure
  pub holds : Q procedure condition
  pub limit : IsLimitOf procedure kind count l
  pub earlier : NoneMet P Q place

-- the first limit on versions that they pass
abbrev pub IsMet : Program → ℕ → Option Limit → Type 0
IsMet P k None = NoneMet P (HasVersions P) k
IsMet P k (Some l) = IsFirstMet P (HasVersions P) k 7 (most_versions + 1) l

-- the limit, where it is one on terms
abbrev pub IsOfTerms : Option Limit → Option Limit → Type 0
IsOfTerms passed None = (l : Limit) → passed ≡ Some l → l.kind ≡ 6 → ⊥
IsOfTerms passed (Some l) = (passed ≡ Some l) × (l.kind ≡ 6)

-- the first of two limits, or the one that there is
abbrev pub earlier : Option Limit → Option Limit → Option Limit
earlier (Some l) later = Some l
earlier None later = later
