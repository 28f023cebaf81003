-- Where no part of a heap, or not the whole of it, meets an assertion, one value shows it.
use Rattle.std.specs.Prelude.{◌≡◌, ◌⊎◌, ℕ, List, [], ◌∷◌, Bool, true, false, not, ◌==◌, cond, is_some, Option, Some}
use Rattle.std.specs.Prelude.{None, MatchBool, Contains}
use Rattle.std.specs.Ordering.{nat_cmp}
use Rattle.std.specs.FinMap.{get, entries, find, get-entries, retain_keys, get-retain_keys, nat_cmp-IsAntisymmetric}
use Rattle.std.proofs.lemmas.Bool.{cases_eq, cases_Bool}
use Rattle.std.proofs.Common.{refl, sym, ◌∙◌, ap, subst, inl, inr}
use Rattle.gh_ast.specs.Plain.{Assertion, empty, comparison, points_to, cell, segment, star, cases, Assertions}
use Rattle.gh_ast.specs.Plain.{no_assertions, assertion_first}
use Rattle.gh_assert.specs.Heaps.{Heap, IsPart, IsCell}
use Rattle.gh_assert.specs.Meaning.{Store, Meaning, MeaningAll, value, agrees, truth}
use Rattle.gh_assert.specs.Tests.{reaches}
use Rattle.gh_assert.specs.Walks.{succ, Allocated}
use Rattle.gh_assert.specs.Reading.{Reads, ReadsAll}
use Rattle.gh_assert.proofs.Cells.{by_look_ups, no_cells, no_cells_part, get_nothing, allocated_or}
use Rattle.gh_assert.proofs.Unions.{union, get_union, union_part, one_cell, is_one_cell, without, get_without}
use Rattle.gh_assert.proofs.Unique.{tie}
use Rattle.gh_assert.proofs.Steps.{distance_from}
use Rattle.gh_assert.proofs.Segments.{segment_from}
use Rattle.gh_assert.proofs.Tests.{tests_decide}
use Rattle.gh_assert.proofs.Reading.{only_cell, covered, covering}
use Rattle.gh_entail.specs.Laws.{WitnessesExist}

-- a heap is empty or has a cell
by_entries : (m : Heap) (es : List (ℕ × ℕ)) → entries m ≡ es → ((q : ℕ) → get m q ≡ None) ⊎ ((q : ℕ) × Allocated m q)
by_entries m [] e = inl (λ q. get-entries m q ∙ ap (find nat_cmp q) e)
by_entries m (d ∷ es) e =
    inr (
      d.0,
      (
        d.1,
        get-entries m d.0 ∙ ap (find nat_cmp d.0) e
            ∙ ap (λ t. cond t (Some d.1) (find nat_cmp d.0 es)) (tie d.0 d.0 refl),
      ),
    )

some_cell : (m : Heap) → ((q : ℕ) → get m q ≡ None) ⊎ ((q : ℕ) × Allocated m q)
some_cell m = by_entries m (entries m) refl

-- two heaps are apart or share a place
abbrev common : Heap → Heap → Heap
common a b = retain_keys a (λ q. is_some (get b q))

get_common : (a b : Heap) (q : ℕ) → get (common a b) q ≡ cond (is_some (get b q)) (get a q) None
get_common a b q =
    get-retain_keys a (λ x. is_some (get b x)) q
    (λ x e. ap (λ y. is_some (get b y)) (sym (nat_cmp-IsAntisymmetric q x e)))

apart_if : (o p : Option ℕ) → cond (is_some p) o None ≡ None → (o ≡ None) ⊎ (p ≡ None)
apart_if o None e = inr refl
apart_if o (Some v) e = inl e

both_if : (o p : Option ℕ) (v : ℕ) → cond (is_some p) o None ≡ Some v
    → ((w : ℕ) × (o ≡ Some w)) × ((w : ℕ) × (p ≡ Some w))
both_if o None v e = absurd cc
both_if o (Some w) v e = ((v, e), (w, refl))

apart_or : (a b : Heap) → ((q : ℕ) → (get a q ≡ None) ⊎ (get b q ≡ None)) ⊎ ((q : ℕ) × Allocated a q × Allocated b q)
apart_or a b = elim (some_cell (common a b)) [
  | inl none ↦ inl (λ q. apart_if (get a q) (get b q) (sym (get_common a b q) ∙ none q))
  | inr (q, some) ↦ let both = both_if (get a q) (get b q) some.0 (sym (get_common a b q) ∙ some.1) in
      inr (q, both.0, both.1)
]

-- a part is the whole, or a cell is left
same_if : (o p : Option ℕ) → ((v : ℕ) → o ≡ Some v → p ≡ Some v) → cond (not (is_some o)) p None ≡ None → o ≡ p
same_if None p f e = sym e
same_if (Some v) p f e = sym (f v refl)

left_if : (o p : Option ℕ) (v : ℕ) → cond (not (is_some o)) p None ≡ Some v → ((w : ℕ) × (p ≡ Some w)) × (o ≡ None)
left_if None p v e = ((v, e), refl)
left_if (Some w) p v e = absurd cc

whole_or : (a h : Heap) → IsPart a h → (a ≡ h) ⊎ ((q : ℕ) × Allocated h q × (get a q ≡ None))
whole_or a h part = elim (some_cell (without h a)) [
  | inl none ↦ inl (by_look_ups a h (λ q. same_if (get a q) (get h q) (part q) (sym (get_without h a q) ∙ none q)))
  | inr (q, some) ↦ let both = left_if (get a q) (get h q) some.0 (sym (get_without h a q) ∙ some.1) in
      inr (q, both.0, both.1)
]

-- some part meets it, or the value shows that none does
abbrev Met : (Heap → Type 0) → Heap → Type 0
Met Q h = (a : Heap) × IsPart a h × Q a

abbrev Denied : (List ℕ → Type 0) → Type 0
Denied R = (z : ℕ) × ((V : List ℕ) → Contains V z → R V → ⊥)

not_null : (h : Heap) (x v : ℕ) → get h 0 ≡ None → get h x ≡ Some v → x ≡ 0 → ⊥
not_null h x v null e same = let none : get h x ≡ None = ap (get h) same ∙ null in absurd cc

cell_met : (h : Heap) (x v : ℕ) → get h 0 ≡ None → get h x ≡ Some v
    → IsPart (one_cell x v) h × IsCell x v (one_cell x v)
cell_met h x v null here =
    let is : IsCell x v (one_cell x v) = is_one_cell x v (not_null h x v null here) in (
      λ q w e. let same : x ≡ q = only_cell x v (one_cell x v) is q (w, e) in
          cc (subst (λ r. get (one_cell x v) r ≡ Some v) same is.here, subst (λ r. get h r ≡ Some v) same here),
      is,
    )

choice_or : (b : Bool) (P Q : Heap → Type 0) (R S : List ℕ → Type 0) (h : Heap) → Met P h ⊎ Denied R
    → Met Q h ⊎ Denied S → Met (λ a. MatchBool b (P a) (Q a)) h ⊎ Denied (λ V. MatchBool b (R V) (S V))
choice_or true P Q R S h d e = d
choice_or false P Q R S h d e = e

joined_or : (f : Assertion) (fs : Assertions) (s : Store) (h : Heap) → Met (Meaning f s) h ⊎ Denied (Reads f s h)
    → Met (MeaningAll fs s) h ⊎ Denied (ReadsAll fs s h)
    → Met (MeaningAll (assertion_first f fs) s) h ⊎ Denied (ReadsAll (assertion_first f fs) s h)
joined_or f fs s h (inr (z, n)) e = inr (z, λ V c r. n V c r.0)
joined_or f fs s h (inl one) (inr (z, n)) = inr (z, λ V c r. n V c r.1)
joined_or f fs s h (inl (a, p, m)) (inl (b, q, ms)) = elim (apart_or a b) [
  | inl apart ↦ inl (union a b, union_part a b h p q, (a, b, record { disjoint = apart; union = get_union a b }, m, ms))
  | inr (z, u, v) ↦ inr (z, λ V c r. r.2 z c (covered f s a h m p z u) (covered (star fs) s b h ms q z v))
]

mutual
  met_or : (f : Assertion) (s : Store) (h : Heap) → get h 0 ≡ None → Met (Meaning f s) h ⊎ Denied (Reads f s h)
  met_or empty s h null = inl (no_cells, no_cells_part h, get_nothing)
  met_or (comparison l e r) s h null = elim (cases_Bool (agrees e (value s l == value s r))) [
    | inl holds ↦ inl (no_cells, no_cells_part h, (get_nothing, holds))
    | inr fails ↦ inr (0, λ V c u. absurd cc)
  ]
  met_or (points_to at to) s h null = elim (allocated_or h (s at.name)) [
    | inl (w, e) ↦ elim (cases_eq w (value s to)) [
      | inl same ↦ let one = cell_met h (s at.name) (value s to) null (e ∙ ap Some same) in
          inl (one_cell (s at.name) (value s to), one.0, one.1)
      | inr other ↦ inr (0, λ V c u. let same : w ≡ value s to = cc in other same)
    ]
    | inr none ↦ inr (0, λ V c u. absurd cc)
  ]
  met_or (cell at) s h null = elim (allocated_or h (s at.name)) [
    | inl (w, e) ↦ let one = cell_met h (s at.name) w null e in inl (one_cell (s at.name) w, one.0, (w, one.1))
    | inr none ↦ inr (0, λ V c u. let there = u.1 in absurd cc)
  ]
  met_or (segment x y) s h null =
      let test = (tests_decide h null).0 (value s x) (value s y) in
      elim (cases_Bool (reaches h (value s x) (value s y))) [
        | inl holds ↦
            let to = test.0 holds in
            let d = distance_from (succ h) to.0 (value s x) (value s y) to.1 in
            let part = segment_from h d.0 (value s x) (value s y) null d.1 in
            inl (part.1, part.2, (part.0, part.3))
        | inr fails ↦ inr (0, λ V c b. let holds = test.1 (b.end, b.distance.arrives) in absurd cc)
      ]
  met_or (star fs) s h null = mets_or fs s h null
  met_or (cases t f g) s h null =
      choice_or (truth s t) (Meaning f s) (Meaning g s) (Reads f s h) (Reads g s h) h (met_or f s h null)
      (met_or g s h null)

  mets_or : (fs : Assertions) (s : Store) (h : Heap) → get h 0 ≡ None
      → Met (MeaningAll fs s) h ⊎ Denied (ReadsAll fs s h)
  mets_or no_assertions s h null = inl (no_cells, no_cells_part h, get_nothing)
  mets_or (assertion_first f fs) s h null = joined_or f fs s h (met_or f s h null) (mets_or fs s h null)

pub witnesses_exist : WitnessesExist
witnesses_exist f s h null = elim (met_or f s h null) [
  | inr (z, n) ↦ (z, λ V c r agree. absurd (n V c r))
  | inl (a, p, m) ↦ elim (whole_or a h p) [
    | inl same ↦ (0, λ V c r agree. subst (Meaning f s) same m)
    | inr (z, there, none) ↦ (
      z,
      λ V c r agree. let here : Allocated a z = covering f s a h m p z ((agree z c).0 there) in let e = here.1 in
          absurd cc,
    )
  ]
]
