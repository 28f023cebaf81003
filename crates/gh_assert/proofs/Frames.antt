-- A frame is carried along.
use Rattle.std.specs.Prelude.{◌≡◌, ◌⊎◌, ℕ, List, [], ◌∷◌, map, Bool, true, false, Option, Some, None}
use Rattle.std.specs.FinMap.{get, insert, remove}
use Rattle.std.proofs.lemmas.Bool.{cases_eq}
use Rattle.std.proofs.Common.{refl, sym, ◌∙◌, ap, subst, inl, inr}
use Rattle.gh_ast.specs.Plain.{Cond, compare, negation, conjunction, disjunction, Conds, no_conds, cond_first}
use Rattle.gh_ast.specs.declared.Expr.{Expr}
use Rattle.gh_ast.specs.declared.Expr.TheVariants.{Plain, Read}
use Rattle.gh_assert.specs.Heaps.{Heap, Splits, or_else}
use Rattle.gh_assert.specs.Meaning.{Store}
use Rattle.gh_assert.proofs.Unique.{left_at, get_removed, get_kept}
use Rattle.gh_assert.specs.Walks.{Allocated}
use Rattle.gh_assert.proofs.Cells.{get_put, get_beside}
use Rattle.gh_assert.proofs.Unions.{union, get_union}
use Rattle.gh_assert.specs.Values.{result, Give, compared, not_outcome, and_then, or_then, outcome, all_outcome}
use Rattle.gh_assert.specs.Values.{some_outcome}

pub in_whole : (h a b : Heap) → Splits h a b → (x v : ℕ) → get a x ≡ Some v → get h x ≡ Some v
in_whole h a b split x v e = left_at (get h x) (get a x) (get b x) v (split.union x) e

none_beside : (o p : Option ℕ) (v : ℕ) → (o ≡ None) ⊎ (p ≡ None) → o ≡ Some v → p ≡ None
none_beside o p v d e = elim d [ inl n ↦ absurd cc | inr n ↦ n ]

-- what the part has, the frame has not
pub not_in_frame : (h a b : Heap) → Splits h a b → (x : ℕ) → Allocated a x → get b x ≡ None
not_in_frame h a b split x (v, e) = none_beside (get a x) (get b x) v (split.disjoint x) e

none_of_both : (o p q : Option ℕ) → o ≡ or_else p q → o ≡ None → (p ≡ None) × (q ≡ None)
none_of_both o None q e n = (refl, sym e ∙ n)
none_of_both o (Some v) q e n = absurd cc

pub in_neither : (h a b : Heap) → Splits h a b → (x : ℕ) → get h x ≡ None → (get a x ≡ None) × (get b x ≡ None)
in_neither h a b split x n = none_of_both (get h x) (get a x) (get b x) (split.union x) n

pub put_beside : (h a b : Heap) (x v : ℕ) → Splits h a b → get b x ≡ None → Splits (insert h x v) (insert a x v) b
put_beside h a b x v split out = record {
  disjoint = λ q. elim (cases_eq q x) [
    | inl same ↦ inr (ap (get b) same ∙ out)
    | inr away ↦ subst (λ o. (o ≡ None) ⊎ (get b q ≡ None)) (sym (get_beside a x v q away)) (split.disjoint q)
  ];
  union = λ q. elim (cases_eq q x) [
    | inl same ↦ subst (λ r. get (insert h x v) r ≡ or_else (get (insert a x v) r) (get b r)) (sym same)
        (get_put h x v ∙ ap (λ o. or_else o (get b x)) (sym (get_put a x v)))
    | inr away ↦ get_beside h x v q away ∙ split.union q ∙ ap (λ o. or_else o (get b q)) (sym (get_beside a x v q away))
  ];
}

pub remove_beside : (h a b : Heap) (x : ℕ) → Splits h a b → get b x ≡ None → Splits (remove h x) (remove a x) b
remove_beside h a b x split out = record {
  disjoint = λ q. elim (cases_eq q x) [
    | inl same ↦ inr (ap (get b) same ∙ out)
    | inr away ↦ subst (λ o. (o ≡ None) ⊎ (get b q ≡ None)) (sym (get_kept a x q away)) (split.disjoint q)
  ];
  union = λ q. elim (cases_eq q x) [
    | inl same ↦ subst (λ r. get (remove h x) r ≡ or_else (get (remove a x) r) (get b r)) (sym same)
        (get_removed h x ∙ sym (ap (λ o. or_else o (get b x)) (get_removed a x) ∙ out))
    | inr away ↦ get_kept h x q away ∙ split.union q ∙ ap (λ o. or_else o (get b q)) (sym (get_kept a x q away))
  ];
}

or_in : (o p q : Option ℕ) → or_else (or_else o p) q ≡ or_else o (or_else p q)
or_in None p q = refl
or_in (Some v) p q = refl

apart_in : (o p q : Option ℕ) → (or_else o p ≡ None) ⊎ (q ≡ None) → (o ≡ None) ⊎ (p ≡ None)
    → (o ≡ None) ⊎ (or_else p q ≡ None)
apart_in None p q d e = inl refl
apart_in (Some v) p q d e = inr (elim d [
  | inl n ↦ absurd cc
  | inr n ↦ elim e [ inl m ↦ absurd cc | inr m ↦ let both : or_else p q ≡ None = rw (m, n) refl in both ]
])

-- what is set aside joins the frame
pub set_aside : (h a b c d : Heap) → Splits h a b → Splits a c d → Splits h c (union d b)
set_aside h a b c d split part = record {
  disjoint =
      λ q. subst (λ o. (get c q ≡ None) ⊎ (o ≡ None)) (sym (get_union d b q))
      (apart_in (get c q) (get d q) (get b q)
      (subst (λ o. (o ≡ None) ⊎ (get b q ≡ None)) (part.union q) (split.disjoint q)) (part.disjoint q));
  union =
      λ q. split.union q ∙ ap (λ o. or_else o (get b q)) (part.union q) ∙ or_in (get c q) (get d q) (get b q)
      ∙ ap (or_else (get c q)) (sym (get_union d b q));
}

apart_out : (o p q : Option ℕ) → (o ≡ None) ⊎ (or_else p q ≡ None) → (p ≡ None) ⊎ (q ≡ None)
    → ((o ≡ None) ⊎ (p ≡ None)) × ((or_else o p ≡ None) ⊎ (q ≡ None))
apart_out None p q d e = (inl refl, e)
apart_out (Some v) None q d e = elim d [ inl n ↦ absurd cc | inr n ↦ (inr refl, inr n) ]
apart_out (Some v) (Some w) q d e = elim d [ inl n ↦ absurd cc | inr n ↦ absurd cc ]

-- and comes back from it
pub taken_back : (h c d b : Heap) → Splits h c (union d b) → ((q : ℕ) → (get d q ≡ None) ⊎ (get b q ≡ None))
    → Splits h (union c d) b × Splits (union c d) c d
taken_back h c d b split apart = (
  record {
    disjoint = λ q. subst (λ o. (o ≡ None) ⊎ (get b q ≡ None)) (sym (get_union c d q)) ((at q).1);
    union =
        λ q. split.union q ∙ ap (or_else (get c q)) (get_union d b q) ∙ sym (or_in (get c q) (get d q) (get b q))
        ∙ ap (λ o. or_else o (get b q)) (sym (get_union c d q));
  },
  record { disjoint = λ q. (at q).0; union = λ q. get_union c d q },
)
  where
    at : (q : ℕ) → ((get c q ≡ None) ⊎ (get d q ≡ None)) × ((or_else (get c q) (get d q) ≡ None) ⊎ (get b q ≡ None))
    at q = apart_out (get c q) (get d q) (get b q)
        (subst (λ o. (get c q ≡ None) ⊎ (o ≡ None)) (get_union d b q) (split.disjoint q)) (apart q)

apart_right : (o p q : Option ℕ) → (or_else o p ≡ None) ⊎ (q ≡ None) → (p ≡ None) ⊎ (q ≡ None)
apart_right None p q d = d
apart_right (Some v) p q d = elim d [ inl n ↦ absurd cc | inr n ↦ inr n ]

-- what was set aside is apart from the frame
pub aside_apart : (h a b c d : Heap) → Splits h a b → Splits a c d → (q : ℕ) → (get d q ≡ None) ⊎ (get b q ≡ None)
aside_apart h a b c d split part q =
    apart_right (get c q) (get d q) (get b q)
    (subst (λ o. (o ≡ None) ⊎ (get b q ≡ None)) (part.union q) (split.disjoint q))

-- what is read in a part is read in the whole
pub reads_whole : (s : Store) (h a b : Heap) → Splits h a b → (e : Expr) (v : ℕ) → result s a e ≡ Some v
    → result s h e ≡ Some v
reads_whole s h a b split (Plain o) v e = e
reads_whole s h a b split (Read o) v e = in_whole h a b split (s o.name) v e

pub gives_whole : (s : Store) (h a b : Heap) → Splits h a b → (es : List Expr) (vs : List ℕ) → Give s a es vs
    → Give s h es vs
gives_whole s h a b split [] vs g = g
gives_whole s h a b split (e ∷ es) [] g = absurd cc
gives_whole s h a b split (e ∷ es) (v ∷ vs) g =
    let here : result s a e ≡ Some v = cc in
    let others : Give s a es vs = cc in
    let first : result s h e ≡ Some v = reads_whole s h a b split e v here in
    let rest : map (result s h) es ≡ map Some vs = gives_whole s h a b split es vs others in
    rw (first, rest) refl

-- each outcome in the part is that in the whole
abbrev pub Stays : {A : Type 0} → Option A → Option A → Type 0
Stays {A} o p = (w : A) → o ≡ Some w → p ≡ Some w

stays_compared : (e : Bool) (a b c d : Option ℕ) → Stays a c → Stays b d → Stays (compared e a b) (compared e c d)
stays_compared e None b c d f g w eq = absurd cc
stays_compared e (Some v) None c d f g w eq = absurd cc
stays_compared e (Some v) (Some u) c d f g w eq =
    let left : c ≡ Some v = f v refl in
    let right : d ≡ Some u = g u refl in
    rw (left, right) eq

stays_opposite : (o p : Option Bool) → Stays o p → Stays (not_outcome o) (not_outcome p)
stays_opposite None p f w eq = absurd cc
stays_opposite (Some v) p f w eq = let same : p ≡ Some v = f v refl in rw same eq

stays_and : (o p o' p' : Option Bool) → Stays o o' → Stays p p' → Stays (and_then o p) (and_then o' p')
stays_and None p o' p' f g w eq = absurd cc
stays_and (Some false) p o' p' f g w eq = let same : o' ≡ Some false = f false refl in rw same eq
stays_and (Some true) p o' p' f g w eq = let same : o' ≡ Some true = f true refl in rw same (g w eq)

stays_or : (o p o' p' : Option Bool) → Stays o o' → Stays p p' → Stays (or_then o p) (or_then o' p')
stays_or None p o' p' f g w eq = absurd cc
stays_or (Some true) p o' p' f g w eq = let same : o' ≡ Some true = f true refl in rw same eq
stays_or (Some false) p o' p' f g w eq = let same : o' ≡ Some false = f false refl in rw same (g w eq)

mutual
  pub outcome_whole : (s : Store) (h a b : Heap) → Splits h a b → (t : Cond) → Stays (outcome s a t) (outcome s h t)
  outcome_whole s h a b split (compare l e r) w eq =
      stays_compared e (result s a l) (result s a r) (result s h l) (result s h r) (reads_whole s h a b split l)
      (reads_whole s h a b split r) w eq
  outcome_whole s h a b split (negation t) w eq =
      stays_opposite (outcome s a t) (outcome s h t) (outcome_whole s h a b split t) w eq
  outcome_whole s h a b split (conjunction ts) w eq = all_whole s h a b split ts w eq
  outcome_whole s h a b split (disjunction ts) w eq = some_whole s h a b split ts w eq

  all_whole : (s : Store) (h a b : Heap) → Splits h a b → (ts : Conds) → Stays (all_outcome s a ts) (all_outcome s h ts)
  all_whole s h a b split no_conds w eq = eq
  all_whole s h a b split (cond_first t ts) w eq =
      stays_and (outcome s a t) (all_outcome s a ts) (outcome s h t) (all_outcome s h ts)
      (outcome_whole s h a b split t) (all_whole s h a b split ts) w eq

  some_whole : (s : Store) (h a b : Heap) → Splits h a b → (ts : Conds)
      → Stays (some_outcome s a ts) (some_outcome s h ts)
  some_whole s h a b split no_conds w eq = eq
  some_whole s h a b split (cond_first t ts) w eq =
      stays_or (outcome s a t) (some_outcome s a ts) (outcome s h t) (some_outcome s h ts)
      (outcome_whole s h a b split t) (some_whole s h a b split ts) w eq
