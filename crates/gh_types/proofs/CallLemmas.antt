-- The errors of an occurrence and of a call.
use Rattle.std.proofs.Common.{◌≡◌, ◌≢◌, ℕ, ◌⊎◌, inl, inr, List, [], ◌∷◌, length, Bool, true, false, not, refl, subst}
use Rattle.std.proofs.lemmas.Bool.{cases_Bool}
use Rattle.std.specs.Prelude.{Any, Option, IsTrue, ◌↔◌}
use Rattle.gh_base.specs.declared.place.Span.{Span}
use Rattle.gh_ast.specs.declared.Occ.{Occ}
use Rattle.gh_ast.specs.declared.Expr.{Expr}
use Rattle.gh_ast.specs.Plain.{Procedure}
use Rattle.gh_ast.specs.Programs.{Name, IsFirstNamed}
use Rattle.gh_ast.specs.Occurrences.{called}
use Rattle.gh_ast.proofs.Declared.{is_one}
use Rattle.gh_types.specs.declared.fault.Fault.{Fault}
use Rattle.gh_types.specs.Checks.{SiteErrors}
use Rattle.gh_types.specs.Faults.{IsFirstOf}
use Rattle.gh_types.proofs.FirstLemmas.{any_here, any_later, first_same}

-- an error at a place, unless a test says that all is well
pub first_unless : (P : Type 0) (well : Bool) (number : ℕ) (place : Span) (found : Option Fault) → (well ≡ false → P)
    → (P → well ≡ false)
    → IsFirstOf (λ n s. (well ≡ false) × (n ≡ number) × (place ≡ s)) found
    → IsFirstOf (λ n s. (n ≡ number) × (place ≡ s) × P) found
first_unless P well number place found wrong right h =
    first_same _ _ found (λ n s (a, b, c). (b, c, wrong a)) (λ n s (b, c, holds). (right holds, b, c)) h

-- where a test decides P, its opposite decides that P isn't so
pub first_without : (P : Type 0) (well : Bool) (number : ℕ) (place : Span) (found : Option Fault) → (IsTrue well ↔ P)
    → IsFirstOf (λ n s. (well ≡ false) × (n ≡ number) × (place ≡ s)) found
    → IsFirstOf (λ n s. (n ≡ number) × (place ≡ s) × (P → ⊥)) found
first_without P well number place found decides =
    first_unless (P → ⊥) well number place found (λ a holds. let t : well ≡ true = decides.1 holds in absurd cc)
    (λ none. elim (cases_Bool well) [ inl t ↦ absurd (none (decides.0 t)) | inr f ↦ f ])

pub first_with : (P : Type 0) (bad : Bool) (number : ℕ) (place : Span) (found : Option Fault) → (IsTrue bad ↔ P)
    → IsFirstOf (λ n s. (not bad ≡ false) × (n ≡ number) × (place ≡ s)) found
    → IsFirstOf (λ n s. (n ≡ number) × (place ≡ s) × P) found
first_with P bad number place found decides =
    first_unless P (not bad) number place found (λ a. decides.0 (flipped bad a))
    (λ holds. let t : bad ≡ true = decides.1 holds in rw t refl)
  where
    flipped : (b : Bool) → not b ≡ false → b ≡ true
    flipped true e = refl
    flipped false e = cc

named_any : (ps : List Procedure) (f : Name) (r : Procedure) → IsFirstNamed ps f r → Any (λ q. q.name.name ≡ f) ps
named_any [] f r named = absurd named
named_any (q ∷ qs) f r named = elim named [
  | inl (here, same) ↦ any_here (λ q. q.name.name ≡ f) q qs here
  | inr (other, more) ↦ any_later (λ q. q.name.name ≡ f) q qs (named_any qs f r more)
]

-- the counts of a call's arguments and targets aren't those of its callee
abbrev pub Differs : List Occ → List Expr → Procedure → Type 0
Differs ts es r = (length es ≢ length r.parameters) ⊎ (length ts ≢ length r.results)

module _ (ps : List Procedure) (q : Procedure) (ts : List Occ) (c : Occ) (es : List Expr) (found : Option Fault) where
  pub first_counted : (r : Procedure) (counts : Bool) → IsFirstNamed ps c.name r → (counts ≡ false → Differs ts es r)
      → (Differs ts es r → counts ≡ false)
      → IsFirstOf (λ n s. (counts ≡ false) × (n ≡ 4) × (c.span ≡ s)) found
      → IsFirstOf (SiteErrors ps q (called ts c es)) found
  first_counted r counts named wrong right h = first_same _ _ found
      (λ n s (a, b, d). inl (b, (d, (r, named, wrong a))))
      (λ n s e. elim e [
        | inl (b, (d, (other, named', differs))) ↦
            (right (subst (Differs ts es) (is_one ps c.name other r named' named) differs), b, d)
        | inr (b, (d, none)) ↦ absurd (none (named_any ps c.name r named))
      ])
      h

  pub first_unknown : (Any (λ r. r.name.name ≡ c.name) ps → ⊥)
      → IsFirstOf (λ n s. (false ≡ false) × (n ≡ 6) × (c.span ≡ s)) found
      → IsFirstOf (SiteErrors ps q (called ts c es)) found
  first_unknown none h = first_same _ _ found
      (λ n s (a, b, d). inr (b, (d, none)))
      (λ n s e. elim e [
        | inl (b, (d, (other, named, differs))) ↦ absurd (none (named_any ps c.name other named))
        | inr (b, (d, none')) ↦ (refl, b, d)
      ])
      h
