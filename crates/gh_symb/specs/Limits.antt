-- The limits on terms and versions that one condition passes.
use Rattle.std.specs.Prelude.{◌≡◌, ◌⊎◌, ⊤, ℕ, ◌+◌, ◌<◌, length, Option, Some, None}
use Rattle.gh_ast.specs.Plain.{Procedure, Program}
use Rattle.gh_ast.specs.declared.typed.Limit as limit
use Rattle.gh_path.specs.Admitted.{most_terms, most_versions, HasManyTerms, HasManyVersions, NoneHas, Passed}
use Rattle.gh_path.specs.Conditions.{Condition}
use Rattle.gh_path.specs.Terms.{terms_of, versions_of}
use Rattle.gh_symb.specs.declared.limits.SymbolicError.{SymbolicError}
use Rattle.gh_symb.specs.declared.limits.SymbolicError.TheVariants.{Limit, OutOfMemory}

-- the condition c of the procedure proc has more terms than the limit; it has more versions than the limit
abbrev pub HasTerms : Program → Procedure → Condition → Type 0
HasTerms P proc c = most_terms < length (terms_of P proc c.start c.way)

abbrev pub HasVersions : Program → Procedure → Condition → Type 0
HasVersions P proc c = most_versions < versions_of P proc c.start c.way

-- the limit is reported at the name of the procedure p, with its kind and a count
pub record IsLimitOf (p : Procedure) (kind count : ℕ) (l : limit.Limit) : Type 0 where
  pub kind_is : l.kind ≡ kind
  pub span : l.span ≡ p.name.span
  pub count_is : l.count ≡ count

-- the limit that a condition passes, terms before versions; counting stops one past the limit
abbrev pub PassesLimit : Program → Procedure → Condition → limit.Limit → Type 0
PassesLimit P proc c l =
    (HasTerms P proc c × IsLimitOf proc 6 (most_terms + 1) l)
    ⊎ ((HasTerms P proc c → ⊥) × HasVersions P proc c × IsLimitOf proc 7 (most_versions + 1) l)

pub record PassesNone (P : Program) (proc : Procedure) (c : Condition) : Type 0 where
  pub terms : HasTerms P proc c → ⊥
  pub versions : HasVersions P proc c → ⊥

abbrev pub Passes : Program → Procedure → Condition → Option limit.Limit → Type 0
Passes P proc c None = PassesNone P proc c
Passes P proc c (Some l) = PassesLimit P proc c l

-- the limit of the first procedure with a condition that passes one: terms over the whole program before versions
abbrev pub IsAdmitRefusal : Program → SymbolicError → Type 0
IsAdmitRefusal P (Limit l) =
    Passed P (HasManyTerms P) 6 (most_terms + 1) l
    ⊎ (NoneHas P (HasManyTerms P) × Passed P (HasManyVersions P) 7 (most_versions + 1) l)
IsAdmitRefusal P OutOfMemory = ⊤

-- the refusal of one condition
abbrev pub IsConditionRefusal : Program → Procedure → Condition → SymbolicError → Type 0
IsConditionRefusal P proc c (Limit l) = PassesLimit P proc c l
IsConditionRefusal P proc c OutOfMemory = ⊤

abbrev pub IsRefusedBy : SymbolicError → Program → Procedure → Condition → Type 0
IsRefusedBy e P proc c = IsConditionRefusal P proc c e
