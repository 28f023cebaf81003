-- Whether some part of a heap, or the whole heap, meets an assertion is decided.
use Rattle.std.specs.Prelude.{◌≡◌, ◌≢◌, ◌⊎◌, ℕ, List, [], ◌∷◌, Bool, true, false, not, ◌==◌, cond, is_some, Option}
use Rattle.std.specs.Prelude.{Some, None, MatchBool}
use Rattle.std.specs.FinMap.{get, entries, find, get-entries, retain_keys, get-retain_keys, nat_cmp-IsAntisymmetric}
use Rattle.std.specs.Ordering.{nat_cmp}
use Rattle.std.proofs.lemmas.Bool.{cases_eq, cases_Bool}
use Rattle.std.proofs.Common.{refl, sym, ◌∙◌, ap, subst, inl, inr}
use Rattle.gh_ast.specs.Plain.{Assertion, empty, comparison, points_to, cell, segment, star, cases, Assertions}
use Rattle.gh_ast.specs.Plain.{no_assertions, assertion_first}
use Rattle.gh_assert.specs.Heaps.{Heap, IsPart, IsCell}
use Rattle.gh_assert.specs.Meaning.{HasPart, Store, Meaning, MeaningAll, value, agrees, truth}
use Rattle.gh_assert.proofs.Unique.{one_footprint, tie, part_left, part_right}
use Rattle.gh_assert.specs.Tests.{reaches}
use Rattle.gh_assert.proofs.Cells.{by_look_ups, no_cells, get_nothing, no_cells_part, get_put, get_beside}
use Rattle.gh_assert.proofs.Unions.{union, get_union, union_part, one_cell, is_one_cell, without, get_without}
use Rattle.gh_assert.proofs.Unions.{part_splits, split_part}
use Rattle.gh_assert.proofs.Tests.{tests_decide}
use Rattle.gh_assert.proofs.WalkLaws.{segments_exist}
use Rattle.gh_assert.specs.Laws.{PartsAreDecided}

abbrev pub Decided : Type 0 → Type 0
Decided A = A ⊎ (A → ⊥)

by_entries : (m : Heap) (es : List (ℕ × ℕ)) → entries m ≡ es → Decided ((q : ℕ) → get m q ≡ None)
by_entries m [] e = inl (λ q. get-entries m q ∙ ap (find nat_cmp q) e)
by_entries m (d ∷ es) e = inr (λ all.
    let here : get m d.0 ≡ Some d.1 =
    get-entries m d.0 ∙ ap (find nat_cmp d.0) e
    ∙ ap (λ t. cond t (Some d.1) (find nat_cmp d.0 es)) (tie d.0 d.0 refl) in
    let none : get m d.0 ≡ None = all d.0 in absurd cc)

empty_decided : (m : Heap) → Decided ((q : ℕ) → get m q ≡ None)
empty_decided m = by_entries m (entries m) refl

some_or_none : (o : Option ℕ) → ((v : ℕ) × (o ≡ Some v)) ⊎ (o ≡ None)
some_or_none None = inr refl
some_or_none (Some v) = inl (v, refl)

abbrev common : Heap → Heap → Heap
common a b = retain_keys a (λ q. is_some (get b q))

get_common : (a b : Heap) (q : ℕ) → get (common a b) q ≡ cond (is_some (get b q)) (get a q) None
get_common a b q =
    get-retain_keys a (λ x. is_some (get b x)) q
    (λ x e. ap (λ y. is_some (get b y)) (sym (nat_cmp-IsAntisymmetric q x e)))

apart_if : (o p : Option ℕ) → cond (is_some p) o None ≡ None → (o ≡ None) ⊎ (p ≡ None)
apart_if o None e = inr refl
apart_if o (Some v) e = inl e

if_apart : (o p : Option ℕ) → (o ≡ None) ⊎ (p ≡ None) → cond (is_some p) o None ≡ None
if_apart o None d = refl
if_apart o (Some v) d = elim d [ inl n ↦ n | inr n ↦ absurd cc ]

abbrev AreApart : Heap → Heap → Type 0
AreApart a b = (q : ℕ) → (get a q ≡ None) ⊎ (get b q ≡ None)

apart_decided : (a b : Heap) → Decided (AreApart a b)
apart_decided a b = elim (empty_decided (common a b)) [
  | inl none ↦ inl (λ q. apart_if (get a q) (get b q) (sym (get_common a b q) ∙ none q))
  | inr some ↦ inr (λ all. some (λ q. get_common a b q ∙ if_apart (get a q) (get b q) (all q)))
]

same_if : (o p : Option ℕ) → ((v : ℕ) → o ≡ Some v → p ≡ Some v) → cond (not (is_some o)) p None ≡ None → o ≡ p
same_if None p f e = sym e
same_if (Some v) p f e = sym (f v refl)

if_same : (o p : Option ℕ) → o ≡ p → cond (not (is_some o)) p None ≡ None
if_same None p e = sym e
if_same (Some v) p e = refl

whole_decided : (a h : Heap) → IsPart a h → Decided (a ≡ h)
whole_decided a h part = elim (empty_decided (without h a)) [
  | inl none ↦ inl (by_look_ups a h (λ q. same_if (get a q) (get h q) (part q) (sym (get_without h a q) ∙ none q)))
  | inr some ↦ inr (λ same. some (λ q. get_without h a q ∙ if_same (get a q) (get h q) (ap (λ k. get k q) same)))
]

-- some part of h meets the assertion
abbrev Part : Assertion → Store → Heap → Type 0
Part f s h = (a : Heap) × IsPart a h × Meaning f s a

abbrev PartOfAll : Assertions → Store → Heap → Type 0
PartOfAll fs s h = (a : Heap) × IsPart a h × MeaningAll fs s a

one_cell_part : (h : Heap) (x v : ℕ) → get h x ≡ Some v → IsPart (one_cell x v) h
one_cell_part h x v e q w at = elim (cases_eq q x) [
  | inl same ↦
      let here : get (one_cell x v) q ≡ Some v =
      subst (λ r. get (one_cell x v) r ≡ Some v) (sym same) (get_put no_cells x v) in
      let there : get h q ≡ Some v = subst (λ r. get h r ≡ Some v) (sym same) e in
      cc
  | inr away ↦
      let none : get (one_cell x v) q ≡ None = get_beside no_cells x v q away ∙ get_nothing q in
      absurd cc
]

not_null : (h : Heap) (x v : ℕ) → get h 0 ≡ None → get h x ≡ Some v → x ≢ 0
not_null h x v null e same = let none : get h x ≡ None = ap (get h) same ∙ null in absurd cc

cell_decided : (s : Store) (h : Heap) (x v : ℕ) → get h 0 ≡ None → Decided ((a : Heap) × IsPart a h × IsCell x v a)
cell_decided s h x v null = elim (some_or_none (get h x)) [
  | inl (w, e) ↦ elim (cases_eq w v) [
    | inl same ↦
        let here : get h x ≡ Some v = e ∙ ap Some same in
        inl (one_cell x v, one_cell_part h x v here, is_one_cell x v (not_null h x v null here))
    | inr other ↦ inr (λ (a, part, is). let there : get h x ≡ Some v = part x v is.here in let same : w ≡ v = cc in
        other same)
  ]
  | inr none ↦ inr (λ (a, part, is). let there : get h x ≡ Some v = part x v is.here in absurd cc)
]

by_choice : (b : Bool) (s : Store) (h : Heap) (f g : Assertion) → Decided (Part f s h) → Decided (Part g s h)
    → Decided ((a : Heap) × IsPart a h × MatchBool b (Meaning f s a) (Meaning g s a))
by_choice true s h f g d e = d
by_choice false s h f g d e = e

joined_decided : (f : Assertion) (fs : Assertions) (s : Store) (h : Heap) → Decided (Part f s h)
    → Decided (PartOfAll fs s h) → Decided (PartOfAll (assertion_first f fs) s h)
joined_decided f fs s h d e = elim d [
  | inr none ↦ inr (λ (c, part, (a, b, split, m, ms)). none (a, part_left c a b h split part, m))
  | inl (a, p, m) ↦ elim e [
    | inr none ↦ inr (λ (c, part, (a', b', split, m', ms')). none (b', part_right c a' b' h split part, ms'))
    | inl (b, q, ms) ↦ elim (apart_decided a b) [
      | inl apart ↦ inl (
        union a b,
        union_part a b h p q,
        (a, b, record { disjoint = apart; union = get_union a b }, m, ms),
      )
      | inr meet ↦ inr (λ (c, part, (a', b', split, m', ms')).
          let first : a' ≡ a = one_footprint f s a' a h m' m (part_left c a' b' h split part) p in
          let others : b' ≡ b = one_footprint (star fs) s b' b h ms' ms (part_right c a' b' h split part) q in
          meet (subst (λ k. AreApart k b) first (subst (λ k. AreApart a' k) others split.disjoint)))
    ]
  ]
]

mutual
  decided : (f : Assertion) (s : Store) (h : Heap) → get h 0 ≡ None → Decided (Part f s h)
  decided empty s h null = inl (no_cells, no_cells_part h, get_nothing)
  decided (comparison l e r) s h null = elim (cases_Bool (agrees e (value s l == value s r))) [
    | inl holds ↦ inl (no_cells, no_cells_part h, (get_nothing, holds))
    | inr fails ↦ inr (λ (a, part, m). let holds : agrees e (value s l == value s r) ≡ true = m.1 in absurd cc)
  ]
  decided (points_to at to) s h null = cell_decided s h (s at.name) (value s to) null
  decided (cell at) s h null = elim (some_or_none (get h (s at.name))) [
    | inl (v, e) ↦ inl (
      one_cell (s at.name) v,
      one_cell_part h (s at.name) v e,
      (v, is_one_cell (s at.name) v (not_null h (s at.name) v null e)),
    )
    | inr none ↦ inr (λ (a, part, (v, is)). let there : get h (s at.name) ≡ Some v = part (s at.name) v is.here in
        absurd cc)
  ]
  decided (segment x y) s h null = elim (cases_Bool (reaches h (value s x) (value s y))) [
    | inl holds ↦
        let found =
        (segments_exist h (value s x) (value s y) null).1
        (((tests_decide h null).0 (value s x) (value s y)).0 holds) in
        inl (found.1, found.2, (found.0, found.3))
    | inr fails ↦ inr (λ (a, part, (n, seg)).
        let holds : reaches h (value s x) (value s y) ≡ true =
        ((tests_decide h null).0 (value s x) (value s y)).1
        ((segments_exist h (value s x) (value s y) null).0 (n, a, part, seg)) in absurd cc)
  ]
  decided (star fs) s h null = all_decided fs s h null
  decided (cases t f g) s h null = by_choice (truth s t) s h f g (decided f s h null) (decided g s h null)

  all_decided : (fs : Assertions) (s : Store) (h : Heap) → get h 0 ≡ None → Decided (PartOfAll fs s h)
  all_decided no_assertions s h null = inl (no_cells, no_cells_part h, get_nothing)
  all_decided (assertion_first f fs) s h null = joined_decided f fs s h (decided f s h null) (all_decided fs s h null)

pub part_decided : (f : Assertion) (s : Store) (h : Heap) → get h 0 ≡ None → Decided (HasPart f s h)
part_decided f s h null = elim (decided f s h null) [
  | inl (a, part, m) ↦ inl (a, without h a, part_splits a h part, m)
  | inr none ↦ inr (λ (a, b, split, m). none (a, split_part h a b split, m))
]

pub meaning_decided : (f : Assertion) (s : Store) (h : Heap) → get h 0 ≡ None → Decided (Meaning f s h)
meaning_decided f s h null = elim (decided f s h null) [
  | inl (a, part, m) ↦ elim (whole_decided a h part) [
    | inl same ↦ inl (subst (Meaning f s) same m)
    | inr other ↦ inr (λ whole. other (one_footprint f s a h h m whole part (λ x v e. e)))
  ]
  | inr none ↦ inr (λ whole. none (h, (λ x v e. e), whole))
]

pub parts_are_decided : PartsAreDecided
parts_are_decided f s h null = (part_decided f s h null, meaning_decided f s h null)
