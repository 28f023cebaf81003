-- What the parts of a step say together.
use Rattle.std.specs.Prelude.{◌≡◌, ◌≢◌, ◌↔◌, ℕ, zero, List, [], ◌∷◌, Option, Some, None, Bool, true, false, not}
use Rattle.std.specs.Prelude.{is_some, IsTrue, Contains}
use Rattle.std.specs.Option.{option_eq}
use Rattle.std.proofs.Common.{refl, sym, ◌∙◌, ap, subst, inl, inr, eqb, eq-eqb}
use Rattle.std.specs.FinMap.{get, insert, remove}
use Rattle.std.proofs.lemmas.Bool.{cases_eq}
use Rattle.gh_ast.specs.Programs.{Name}
use Rattle.gh_ast.proofs.Lists.{no_member, one_value}
use Rattle.gh_assert.specs.Heaps.{Heap}
use Rattle.gh_assert.specs.Meaning.{Store}
use Rattle.gh_assert.specs.Values.{Gets}
use Rattle.gh_assert.specs.Walks.{Allocated}
use Rattle.gh_assert.proofs.Cells.{by_look_ups, get_put, get_beside}
use Rattle.gh_assert.proofs.Unique.{get_removed, get_kept}
use Rattle.gh_trace.specs.Traces.{State}

abbrev pub state : Store → Heap → State
state s h = record { store = s; heap = h }

-- the values of all names but some are kept
abbrev pub Kept : List Name → Store → Store → Type 0
Kept xs s t = (n : Name) → (Contains xs n → ⊥) → t n ≡ s n

fun_ext : (s t : Store) → ((n : Name) → t n ≡ s n) → t ≡ s
fun_ext s t p = λ i. λ n. p n i

pub same_store : (s t : Store) → Kept [] s t → t ≡ s
same_store s t kept = fun_ext s t (λ n. kept n (λ there. no_member n there))

pub same_state : (s t : Store) (h k : Heap) → Kept [] s t → h ≡ k → state t k ≡ state s h
same_state s t h k kept same = ap (λ u. state u k) (same_store s t kept) ∙ ap (state s) (sym same)

pub state_keeps : (s t : Store) (h k : Heap) → state t k ≡ state s h → Kept [] s t
state_keeps s t h k same = λ n out. ap (λ (x : State). x.store n) same

pub state_heap : (s t : Store) (h k : Heap) → state t k ≡ state s h → h ≡ k
state_heap s t h k same = sym (ap (λ (x : State). x.heap) same)

pub some_there : (o : Option ℕ) (b : Bool) → is_some o ≡ not b → b ≡ false → (v : ℕ) × (o ≡ Some v)
some_there None b is f = let bad : false ≡ true = is ∙ ap not f in absurd cc
some_there (Some v) b is f = (v, refl)

pub none_there : (o : Option ℕ) (b : Bool) (v : ℕ) → is_some o ≡ not b → b ≡ true → o ≡ Some v → ⊥
none_there None b v is t e = absurd cc
none_there (Some w) b v is t e = let bad : true ≡ false = is ∙ ap not t in absurd cc

pub other_contents : (o p : Option ℕ) → not (option_eq eqb o p) ≡ true → o ≡ p → ⊥
other_contents None None t e = absurd cc
other_contents None (Some w) t e = absurd cc
other_contents (Some v) None t e = absurd cc
other_contents (Some v) (Some w) t e = let same : v ≡ w = cc in let holds : eqb v w ≡ true = eq-eqb v w same in
    let bad : not true ≡ true = ap not (sym holds) ∙ t in absurd cc

-- a cell that is written: the heaps are one without it
pub written_where : (h k : Heap) (p v : ℕ) → get k p ≡ Some v → (remove h p ≡ remove k p) ↔ (k ≡ insert h p v)
written_where h k p v there = (
  λ same. by_look_ups k (insert h p v) (λ q. elim (cases_eq q p) [
    | inl here ↦ subst (λ r. get k r ≡ get (insert h p v) r) (sym here) (there ∙ sym (get_put h p v))
    | inr away ↦ sym (get_kept k p q away) ∙ sym (ap (λ z. get z q) same) ∙ get_kept h p q away
        ∙ sym (get_beside h p v q away)
  ]),
  λ is. by_look_ups (remove h p) (remove k p) (λ q. elim (cases_eq q p) [
    | inl here ↦ subst (λ r. get (remove h p) r ≡ get (remove k p) r) (sym here)
        (get_removed h p ∙ sym (get_removed k p))
    | inr away ↦ get_kept h p q away ∙ sym (get_kept k p q away ∙ ap (λ z. get z q) is ∙ get_beside h p v q away)
  ]),
)

-- a new cell: without it the heap is what it was
pub made_where : (h k : Heap) (p v : ℕ) → get k p ≡ Some v → (h ≡ remove k p) ↔ ((get h p ≡ None) × (k ≡ insert h p v))
made_where h k p v there = (
  λ same. (
    ap (λ z. get z p) same ∙ get_removed k p,
    by_look_ups k (insert h p v) (λ q. elim (cases_eq q p) [
      | inl here ↦ subst (λ r. get k r ≡ get (insert h p v) r) (sym here) (there ∙ sym (get_put h p v))
      | inr away ↦ sym (get_kept k p q away) ∙ sym (ap (λ z. get z q) same) ∙ sym (get_beside h p v q away)
    ]),
  ),
  λ (out, is). by_look_ups h (remove k p) (λ q. elim (cases_eq q p) [
    | inl here ↦ subst (λ r. get h r ≡ get (remove k p) r) (sym here) (out ∙ sym (get_removed k p))
    | inr away ↦ sym (get_kept k p q away ∙ ap (λ z. get z q) is ∙ get_beside h p v q away)
  ]),
)

pub there_at : (h : Heap) (p q : ℕ) (o : Option ℕ) (b : Bool) → q ≡ p → o ≡ get h q → is_some o ≡ not b → b ≡ false
    → Allocated h p
there_at h p q o b place content is f = let found = some_there o b is f in
    (found.0, ap (get h) (sym place) ∙ sym content ∙ found.1)

-- what a write, a new cell and a free do
abbrev pub Writes : Store → Store → Heap → Heap → ℕ → Option ℕ → Type 0
Writes s t h k p o = (v : ℕ) × (o ≡ Some v) × Allocated h p × (state t k ≡ state s (insert h p v))

pub writes_where : (s t : Store) (h k : Heap) (p q v : ℕ) (o : Option ℕ) → q ≡ p → o ≡ Some v → Allocated h p
    → get k q ≡ Some v → Kept [] s t → (remove h q ≡ remove k q) ↔ Writes s t h k p o
writes_where s t h k p q v o place is at there kept = (
  λ same. (
    v,
    is,
    at,
    same_state s t (insert h p v) k kept
        (sym ((written_where h k p v there_p).0 (subst (λ r. remove h r ≡ remove k r) place same))),
  ),
  λ (w, is', at', states).
      let one : w ≡ v = one_value o w v is' is in
      let heaps : k ≡ insert h p v = sym (state_heap s t (insert h p w) k states) ∙ ap (insert h p) one in
      subst (λ r. remove h r ≡ remove k r) (sym place) ((written_where h k p v there_p).1 heaps),
)
  where
    there_p : get k p ≡ Some v
    there_p = ap (get k) (sym place) ∙ there

pub not_written : (s t : Store) (h k : Heap) (p q v : ℕ) (o : Option ℕ) → q ≡ p → o ≡ Some v → (get k q ≡ Some v → ⊥)
    → Writes s t h k p o → ⊥
not_written s t h k p q v o place is differ (w, is', at, states) =
    let one : w ≡ v = one_value o w v is' is in
    differ (ap (get k) place ∙ ap (λ z. get z p) (sym (state_heap s t (insert h p w) k states)) ∙ get_put h p w
    ∙ ap Some one)

abbrev pub Makes : Store → Store → Heap → Heap → Name → Type 0
Makes s t h k n = (l : ℕ) × (v : ℕ) × (l ≢ 0) × (get h l ≡ None) × Gets s (n ∷ []) (l ∷ []) t × (k ≡ insert h l v)

pub got_one : (s t : Store) (n : Name) (l : ℕ) → Gets s (n ∷ []) (l ∷ []) t → t n ≡ l
got_one s t n l gets = let both : t n ∷ [] ≡ l ∷ [] = gets.given in cc

pub made_there : (s t : Store) (h k : Heap) (n : Name) (q : ℕ) → q ≡ t n → Makes s t h k n
    → (q ≢ 0) × Allocated k q × Kept (n ∷ []) s t
made_there s t h k n q place (l, v, ne, none, gets, is) =
    let same : l ≡ q = sym (got_one s t n l gets) ∙ sym place in
    (λ zero. ne (same ∙ zero), (v, ap (get k) (sym same) ∙ ap (λ z. get z l) is ∙ get_put h l v), gets.kept)

pub makes_where : (s t : Store) (h k : Heap) (n : Name) (q : ℕ) → q ≡ t n → q ≢ 0 → Allocated k q → Kept (n ∷ []) s t
    → (h ≡ remove k q) ↔ Makes s t h k n
makes_where s t h k n q place ne (v, there) kept = (
  λ same. let made = (made_where h k q v there).0 same in
      (q, v, ne, made.0, record { given = ap (λ x. x ∷ []) (sym place); kept = kept }, made.1),
  λ (l, w, ne', none, gets, is).
      let same : l ≡ q = sym (got_one s t n l gets) ∙ sym place in
      let none_q : get h q ≡ None = subst (λ x. get h x ≡ None) same none in
      let is_q : k ≡ insert h q w = subst (λ x. k ≡ insert h x w) same is in
      (made_where h k q w (ap (λ z. get z q) is_q ∙ get_put h q w)).1 (none_q, is_q),
)

abbrev pub Frees : Store → Store → Heap → Heap → ℕ → Type 0
Frees s t h k p = Allocated h p × (state t k ≡ state s (remove h p))

pub frees_where : (s t : Store) (h k : Heap) (p q : ℕ) → q ≡ p → Allocated h p → Kept [] s t
    → (remove h q ≡ k) ↔ Frees s t h k p
frees_where s t h k p q place at kept = (
  λ same. (at, same_state s t (remove h p) k kept (ap (remove h) (sym place) ∙ same)),
  λ (at', states). ap (remove h) place ∙ state_heap s t (remove h p) k states,
)

pub allocated_where : (h : Heap) (p q : ℕ) (o : Option ℕ) (b : Bool) → q ≡ p → o ≡ get h q → b ≡ is_some o
    → IsTrue b ↔ Allocated h p
allocated_where h p q None b place content is =
    (λ t. absurd cc, λ (v, there). let none : get h p ≡ None = ap (get h) (sym place) ∙ sym content in absurd cc)
allocated_where h p q (Some v) b place content is = (λ t. (v, ap (get h) (sym place) ∙ sym content), λ at. is)
