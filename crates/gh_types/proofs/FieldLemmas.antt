-- The fields of the struct, one field more.
use Rattle.std.proofs.Common.{◌≡◌, ◌≢◌, ℕ, ◌+◌, ◌<◌, ◌≤◌, ◌↔◌, ◌⊎◌, inl, inr, Bool, true, false, ◌||◌, IsTrue, List, []}
use Rattle.std.proofs.Common.{◌∷◌, ◌++◌, length, take, get_or, length-append, refl, sym, ◌∙◌, ap, subst, arith}
use Rattle.std.proofs.Math.Seq.{get_or-append_seam, take-length}
use Rattle.std.proofs.lemmas.Bool.{cases_lt}
use Rattle.std.proofs.lemmas.List.{take_all, take_more, take-append-le, get_or_append_left}
use Rattle.std.specs.Prelude.{Any, Option, codes}
use Rattle.gh_base.specs.declared.place.Span.{Span}
use Rattle.gh_ast.specs.declared.Field.{Field}
use Rattle.gh_ast.specs.Rules.{IsLink, SecondLink, NoLink}
use Rattle.gh_types.specs.declared.fault.Fault.{Fault}
use Rattle.gh_types.specs.Checks.{FieldErrors, FieldsErrors, StructErrors}
use Rattle.gh_types.specs.Faults.{IsFirstOf, IsEarlier}
use Rattle.gh_types.proofs.FirstLemmas.{any_left, any_right, any_here, any_parts, any_cases, any_none, first_same}
use Rattle.gh_types.proofs.FirstLemmas.{first_either}

-- the front of a list, one member more
front_more : {X : Type 0} (xs : List X) (k : ℕ) (x : X) → k < length xs → x ≡ get_or xs k x
    → take (k + 1) xs ≡ take k xs ++ x ∷ []
front_more xs k x h e = take_more xs k x h ∙ ap (λ y. take k xs ++ y ∷ []) (sym e)

any_last : {X : Type 0} (P : X → Type 0) (xs : List X) (x : X) → Any P (xs ++ x ∷ []) → Any P xs ⊎ P x
any_last P xs x a = elim (any_parts P xs (x ∷ []) a) [
  | inl b ↦ inl b
  | inr b ↦ elim (any_cases P x [] b) [ inl holds ↦ inr holds | inr c ↦ absurd (any_none P c) ]
]

-- whether there is a link so far
linked_step : (fs : List Field) (f : Field) (a b : Bool) → (IsTrue a ↔ Any IsLink fs) → (IsTrue b ↔ IsLink f)
    → IsTrue (a || b) ↔ Any IsLink (fs ++ f ∷ [])
linked_step fs f true b p q = (λ _. any_left IsLink fs (f ∷ []) (p.0 refl), λ _. refl)
linked_step fs f false true p q = (λ _. any_right IsLink fs (f ∷ []) (any_here IsLink f [] (q.0 refl)), λ _. refl)
linked_step fs f false false p q = (λ e. cc, λ a. elim (any_last IsLink fs f a) [ inl x ↦ p.1 x | inr x ↦ q.1 x ])

pub linked_more : (fs : List Field) (k : ℕ) (f : Field) (a b : Bool) → k < length fs → f ≡ get_or fs k f
    → (IsTrue a ↔ Any IsLink (take k fs)) → (IsTrue b ↔ IsLink f) → IsTrue (a || b) ↔ Any IsLink (take (k + 1) fs)
linked_more fs k f a b h e p q = rw (front_more fs k f h e) (linked_step (take k fs) f a b p q)

-- a second link stays one
still : (fs : List Field) (f : Field) (s : Span) → SecondLink fs s → SecondLink (fs ++ f ∷ []) s
still fs f s h = record {
  here = h.here;
  place = h.place;
  within = omega (arith, h.within, length-append fs (f ∷ []));
  element = get_or_append_left fs (f ∷ []) h.here h.place h.within ∙ h.element;
  kind = h.kind;
  second = let fits : h.place ≤ length fs = omega (arith, h.within) in rw take-append-le h.second;
  span = h.span;
}

last : (fs : List Field) (f : Field) → f.kind ≡ codes "Node" → (f.name.name ≢ codes "next") ⊎ Any IsLink fs
    → SecondLink (fs ++ f ∷ []) f.name.span
last fs f k w = record {
  here = f;
  place = length fs;
  within = omega (arith, length-append fs (f ∷ []));
  element = get_or-append_seam fs f [] f;
  kind = k;
  second = let fits : length fs ≤ length fs = omega arith in rw (take-append-le, take-length) w;
  span = refl;
}

cases_of : (fs : List Field) (f : Field) (s : Span) → SecondLink (fs ++ f ∷ []) s
    → SecondLink fs s ⊎ ((f.name.span ≡ s) × (f.kind ≡ codes "Node") × ((f.name.name ≢ codes "next") ⊎ Any IsLink fs))
cases_of fs f s h = elim (cases_lt h.place (length fs)) [
  | inl l ↦ inl (record {
    here = h.here;
    place = h.place;
    within = l;
    element = sym (get_or_append_left fs (f ∷ []) h.here h.place l) ∙ h.element;
    kind = h.kind;
    second = let fits : h.place ≤ length fs = omega arith in
        subst (λ (xs : List Field). (h.here.name.name ≢ codes "next") ⊎ Any IsLink xs)
        (take-append-le h.place fs (f ∷ []) fits) h.second;
    span = h.span;
  })
  | inr l ↦
      let at_end : h.place ≡ length fs = omega (arith, h.within, length-append fs (f ∷ [])) in
      let same : h.here ≡ f =
      sym (sym (get_or-append_seam fs f [] h.here)
      ∙ (ap (λ k. get_or (fs ++ f ∷ []) k h.here) (sym at_end) ∙ h.element)) in
      let fits : h.place ≤ length fs = omega arith in
      let front : take h.place (fs ++ f ∷ []) ≡ fs =
      take-append-le h.place fs (f ∷ []) fits ∙ (ap (λ k. take k fs) at_end ∙ take-length fs) in
      inr (
        sym (ap (λ x. x.name.span) same) ∙ h.span,
        sym (ap (λ x. x.kind) same) ∙ h.kind,
        subst (λ (x : Field). (x.name.name ≢ codes "next") ⊎ Any IsLink fs) same
            (subst (λ (xs : List Field). (h.here.name.name ≢ codes "next") ⊎ Any IsLink xs) front h.second),
      )
]

-- the errors of one field more
forth : (fs : List Field) (f : Field) (a : Bool) → (IsTrue a ↔ Any IsLink fs) → (n : ℕ) (s : Span)
    → FieldsErrors fs n s ⊎ FieldErrors f a n s → FieldsErrors (fs ++ f ∷ []) n s
forth fs f a p n s (inl (inl (e, h))) = inl (e, still fs f s h)
forth fs f a p n s (inl (inr (e, h))) = inr (e, any_left _ fs (f ∷ []) h)
forth fs f a p n s (inr (inl (e, o, k, w))) =
    inl (e, subst (SecondLink _) o (last fs f k (elim w [ inl x ↦ inl x | inr x ↦ inr (p.0 x) ])))
forth fs f a p n s (inr (inr (e, o, k))) =
    inr (
      e,
      any_right (λ x. (x.name.span ≡ s) × (x.kind ≢ codes "Node")) fs (f ∷ [])
          (any_here (λ x. (x.name.span ≡ s) × (x.kind ≢ codes "Node")) f [] (o, k)),
    )

back : (fs : List Field) (f : Field) (a : Bool) → (IsTrue a ↔ Any IsLink fs) → (n : ℕ) (s : Span)
    → FieldsErrors (fs ++ f ∷ []) n s → FieldsErrors fs n s ⊎ FieldErrors f a n s
back fs f a p n s (inl (e, h)) = elim (cases_of fs f s h) [
  | inl x ↦ inl (inl (e, x))
  | inr (o, k, w) ↦ inr (inl (e, o, k, elim w [ inl x ↦ inl x | inr x ↦ inr (p.1 x) ]))
]
back fs f a p n s (inr (e, h)) = elim (any_last (λ x. (x.name.span ≡ s) × (x.kind ≢ codes "Node")) fs f h) [
  | inl x ↦ inl (inr (e, x))
  | inr (o, k) ↦ inr (inr (e, o, k))
]

pub fields_more : (fs : List Field) (k : ℕ) (f : Field) (linked : Bool) (a b r : Option Fault) → k < length fs
    → f ≡ get_or fs k f
    → (IsTrue linked ↔ Any IsLink (take k fs)) → IsEarlier a b r → IsFirstOf (FieldsErrors (take k fs)) a
    → IsFirstOf (FieldErrors f linked) b → IsFirstOf (FieldsErrors (take (k + 1) fs)) r
fields_more fs k f linked a b r h e p i x y =
    rw (front_more fs k f h e)
    (first_same _ _ r (forth (take k fs) f linked p) (back (take k fs) f linked p) (first_either _ _ a b r i x y))

-- the whole struct
pub struct_whole : (fs : List Field) (close : Span) (k : ℕ) (linked : Bool) (a b r : Option Fault) → length fs ≤ k
    → (IsTrue linked ↔ Any IsLink (take k fs)) → IsEarlier a b r → IsFirstOf (FieldsErrors (take k fs)) a
    → IsFirstOf (λ n s. (linked ≡ false) × (n ≡ 12) × (close ≡ s)) b → IsFirstOf (StructErrors fs close) r
struct_whole fs close k linked a b r h p i x y =
    let all : take k fs ≡ fs = take_all k fs h in
    let here = subst (λ (xs : List Field). IsFirstOf (FieldsErrors xs) a) all x in
    first_either _ _ a b r i here (first_same _ _ b none (λ n s (e, (o, m)). (unlinked m, e, o)) y)
  where
    tells : IsTrue linked ↔ Any IsLink fs
    tells = subst (λ (xs : List Field). IsTrue linked ↔ Any IsLink xs) (take_all k fs h) p

    none : (n : ℕ) (s : Span) → (linked ≡ false) × (n ≡ 12) × (close ≡ s) → (n ≡ 12) × NoLink fs close s
    none n s (u, e, o) = (e, (o, λ m. let t : linked ≡ true = tells.1 m in cc))

    unlinked : (Any IsLink fs → ⊥) → linked ≡ false
    unlinked m = by_case linked refl
      where
        by_case : (b : Bool) → linked ≡ b → b ≡ false
        by_case false e = refl
        by_case true e = absurd (m (tells.0 e))
