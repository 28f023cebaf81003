-- Ownership goes from wholes to parts and back.
use Rattle.std.specs.Prelude.{◌≡◌, ◌⊎◌, ℕ, zero, suc, ◌-◌, ◌≤◌, ◌<◌, List, Some, None, Contains}
use Rattle.std.specs.FinMap.{get}
use Rattle.std.proofs.lemmas.Bool.{cases_eq, cases_order}
use Rattle.std.proofs.Common.{refl, sym, ◌∙◌, ap, subst, inl, inr, arith}
use Rattle.gh_ast.specs.Plain.{Assertion, empty, comparison, points_to, cell, segment, star, cases, Assertions}
use Rattle.gh_ast.specs.Plain.{no_assertions, assertion_first}
use Rattle.gh_assert.specs.Heaps.{Heap, Splits, IsPart, IsCell, IsEmpty, Segment}
use Rattle.gh_assert.specs.Meaning.{Store, Meaning, MeaningAll, value, truth}
use Rattle.gh_assert.proofs.Unique.{left_at, right_at, part_left, part_right}
use Rattle.gh_assert.specs.Walks.{succ, walk, Allocated, Meets, IsDistance}
use Rattle.gh_assert.specs.Ownership.{IsUnnamed, HangsBelow, Owned}
use Rattle.gh_assert.specs.Reading.{HasNames, HaveNames}
use Rattle.gh_assert.specs.Laws.{FootprintsAreOwned, FootprintsComeAndGo, CellsComeAndGo, UnionsAreOwned, HopsAreKept}
use Rattle.gh_assert.proofs.Steps.{distinct}
use Rattle.gh_assert.proofs.Cells.{allocated_or, succ_at, at_succ, walk_stays}
use Rattle.gh_assert.proofs.Segments.{segment_distance, segment_meets, segment_covers}
use Rattle.gh_assert.proofs.Unions.{parts_apart, in_either, split_part}
use Rattle.gh_assert.proofs.Reading.{at_choice, covered, covering, goes_back, goes_on, only_cell}
use Rattle.gh_assert.proofs.Hops.{goes_through}
use Rattle.gh_assert.proofs.Owned.{named_or, walk_suc, owned_induction, GoesBack, GoesOn}

-- a walk inside a part is a walk in the whole
walk_in_part : (b h : Heap) → IsPart b h → (k n : ℕ) → Allocated b (walk b k n) → walk h k n ≡ walk b k n
walk_in_part b h p zero n a = refl
walk_in_part b h p (suc k) n a = elim (allocated_or b n) [
  | inl (v, e) ↦ ap (walk h k) (succ_at h n v (p n v e) ∙ sym (succ_at b n v e)) ∙ walk_in_part b h p k (succ b n) a
  | inr out ↦ let there : Allocated b n = subst (Allocated b) (walk_stays b n out (suc k)) a in let e = there.1 in
      absurd cc
]

in_left : (h a b : Heap) → Splits h a b → (x v : ℕ) → get a x ≡ Some v → get h x ≡ Some v
in_left h a b split x v e = left_at (get h x) (get a x) (get b x) v (split.union x) e

in_right : (h a b : Heap) → Splits h a b → (x v : ℕ) → get b x ≡ Some v → get h x ≡ Some v
in_right h a b split x v e = right_at (get h x) (get a x) (get b x) v (split.disjoint x) (split.union x) e

in_part : (h a b : Heap) → Splits h a b → (x v : ℕ) → get h x ≡ Some v → (get a x ≡ Some v) ⊎ (get b x ≡ Some v)
in_part h a b split x v e = in_either h a b x v (split.union x) e

reached_in : (V : List ℕ) (a h : Heap) → IsPart a h → Owned V a → (c : ℕ) → Allocated a c → IsUnnamed V c
    → HangsBelow V h c
reached_in V a h p own c there un =
    let from = own.reached c there un in
    let at = from.3 in (
      from.0,
      from.1,
      from.2,
      (at.0, p from.0 at.0 at.1),
      walk_in_part a h p from.1 from.0 (subst (Allocated a) (sym from.4) there) ∙ from.4,
    )

points_in : (V : List ℕ) (a h : Heap) → IsPart a h → Owned V a → (x v : ℕ) → get a x ≡ Some v
    → Contains V v ⊎ Allocated h v
points_in V a h p own x v e = elim (own.points x v e) [ inl c ↦ inl c | inr (w, f) ↦ inr (w, p v w f) ]

-- no two disjoint owned heaps point to one unnamed place
point_apart : (V : List ℕ) (h a b : Heap) → Splits h a b → Owned V a → Owned V b → (c p q : ℕ) → IsUnnamed V c
    → get a p ≡ Some c → get b q ≡ Some c → ⊥
point_apart V h a b split own other c p q un e f = elim (own.points p c e) [
  | inl n ↦ un n
  | inr s ↦ elim (other.points q c f) [ inl n ↦ un n | inr t ↦ parts_apart h a b c split s t ]
]

pub owned_union : UnionsAreOwned
owned_union V h a b split own other = record {
  points = λ x v e. elim (in_part h a b split x v e) [
    | inl l ↦ points_in V a h (in_left h a b split) own x v l
    | inr r ↦ points_in V b h (in_right h a b split) other x v r
  ];
  one_predecessor = λ c p q un e f. elim (in_part h a b split p c e) [
    | inl l ↦ elim (in_part h a b split q c f)
        [ inl m ↦ own.one_predecessor c p q un l m | inr m ↦ absurd (point_apart V h a b split own other c p q un l m) ]
    | inr r ↦ elim (in_part h a b split q c f) [
      | inl m ↦ absurd (point_apart V h a b split own other c q p un m r)
      | inr m ↦ other.one_predecessor c p q un r m
    ]
  ];
  reached = λ c there un. elim (in_part h a b split c there.0 there.1) [
    | inl l ↦ reached_in V a h (in_left h a b split) own c (there.0, l) un
    | inr r ↦ reached_in V b h (in_right h a b split) other c (there.0, r) un
  ];
}

owned_empty : (V : List ℕ) (a : Heap) → IsEmpty a → Owned V a
owned_empty V a none = record {
  points = λ x v e. let n : get a x ≡ None = none x in absurd cc;
  one_predecessor = λ c p q un e f. let n : get a p ≡ None = none p in absurd cc;
  reached = λ c there un. let n : get a c ≡ None = none c in let e = there.1 in absurd cc;
}

owned_cell : (V : List ℕ) (a : Heap) (x v : ℕ) → IsCell x v a → Contains V x → Contains V v → Owned V a
owned_cell V a x v is at to = record {
  points = λ p w e. let same : x ≡ p = only_cell x v a is p (w, e) in
      let here : get a p ≡ Some v = subst (λ r. get a r ≡ Some v) same is.here in
      let content : v ≡ w = cc in inl (subst (Contains V) content to);
  one_predecessor = λ c p q un e f. sym (only_cell x v a is p (c, e)) ∙ only_cell x v a is q (c, f);
  reached = λ c there un. absurd (un (subst (Contains V) (only_cell x v a is c there) at));
}

owned_segment : (V : List ℕ) (a : Heap) (n x y : ℕ) → Segment n x y a → Contains V x → Contains V y → Owned V a
owned_segment V a n x y s from to = record {
  points = λ p v e. let met = place p (v, e) in
      let next : walk a (suc met.0) x ≡ v = walk_suc a met.0 x ∙ ap (succ a) met.2 ∙ succ_at a p v e in
      elim (cases_eq (suc met.0) n) [
        | inl last ↦ inl (subst (Contains V) (sym far.arrives ∙ ap (λ i. walk a i x) (sym last) ∙ next) to)
        | inr more ↦ inr (segment_covers n x y a a s all v (suc met.0, omega (arith, met.1), next))
      ];
  one_predecessor = λ c p q un e f. one c p q (place p (c, e)) (place q (c, f)) e f;
  reached = λ c there un. let met = place c there in
      (x, met.0, from, segment_covers n x y a a s all x (0, omega (arith, met.1), refl), met.2);
}
  where
    all : IsPart a a
    all x v e = e

    far : IsDistance (succ a) x y n
    far = segment_distance n x y a a s all

    place : (p : ℕ) → Allocated a p → Meets (succ a) x n p
    place p there = segment_meets n x y a a s all p there

    one : (c p q : ℕ) → Meets (succ a) x n p → Meets (succ a) x n q → get a p ≡ Some c → get a q ≡ Some c → p ≡ q
    one c p q (i, l, e) (j, m, f) u v =
        let next : walk a (suc i) x ≡ walk a (suc j) x =
        walk_suc a i x ∙ ap (succ a) e ∙ succ_at a p c u ∙ sym (walk_suc a j x ∙ ap (succ a) f ∙ succ_at a q c v) in
        elim (cases_order i j) [
          | inl same ↦ sym e ∙ ap (λ k. walk a k x) same ∙ f
          | inr (inl less) ↦ absurd (distinct far (suc i) (suc j) (n - suc j) (omega arith) (omega arith) next)
          | inr (inr more) ↦ absurd (distinct far (suc j) (suc i) (n - suc i) (omega arith) (omega arith) (sym next))
        ]

mutual
  owned_footprint : (f : Assertion) (s : Store) (V : List ℕ) (h a : Heap) → IsPart a h → HasNames f s h V
      → Meaning f s a → Owned V a
  owned_footprint empty s V h a p n m = owned_empty V a m
  owned_footprint (comparison l e r) s V h a p n m = owned_empty V a m.0
  owned_footprint (points_to at to) s V h a p n m = owned_cell V a (s at.name) (value s to) m n.0 n.2
  owned_footprint (cell at) s V h a p n (to, m) =
      owned_cell V a (s at.name) to m n.0 (subst (Contains V) (succ_at h (s at.name) to (p (s at.name) to m.here)) n.1)
  owned_footprint (segment x y) s V h a p n (k, m) = owned_segment V a k (value s x) (value s y) m n.0 n.1
  owned_footprint (star fs) s V h a p n m = owned_footprints fs s V h a p n m
  owned_footprint (cases t f g) s V h a p n m =
      at_choice (truth s t) (Meaning f s a) (Meaning g s a) (Owned V a) (λ u. owned_footprint f s V h a p n.0 u)
      (λ u. owned_footprint g s V h a p n.1 u) m

  owned_footprints : (fs : Assertions) (s : Store) (V : List ℕ) (h a : Heap) → IsPart a h → HaveNames fs s h V
      → MeaningAll fs s a → Owned V a
  owned_footprints no_assertions s V h a p n m = owned_empty V a m
  owned_footprints (assertion_first f fs) s V h a p n (b, c, split, m, ms) =
      owned_union V a b c split (owned_footprint f s V h b (part_left a b c h split p) n.0 m)
      (owned_footprints fs s V h c (part_right a b c h split p) n.1 ms)

pub footprints_are_owned : FootprintsAreOwned
footprints_are_owned V h a s f p n m = owned_footprint f s V h a p n m

-- a part that unnamed edges neither enter nor leave leaves an owned rest
owned_rest : (V : List ℕ) (h a b : Heap) → Owned V h → Splits h a b → GoesBack V h (Allocated a)
    → GoesOn V h (Allocated a) → Owned V b
owned_rest V h a b own split back on = record {
  points = λ x v e. elim (own.points x v (in_right h a b split x v e)) [
    | inl c ↦ inl c
    | inr there ↦ elim (named_or V v) [
      | inl c ↦ inl c
      | inr un ↦ elim (in_part h a b split v there.0 there.1) [
        | inl l ↦ absurd (parts_apart h a b x split
            (enters x v (v, in_right h a b split x v e) un (there.0, l) (in_right h a b split x v e)) (v, e))
        | inr r ↦ inr (there.0, r)
      ]
    ]
  ];
  one_predecessor =
      λ c p q un e f. own.one_predecessor c p q un (in_right h a b split p c e) (in_right h a b split q c f);
  reached =
      λ c there un. owned_induction V h own (λ z. Allocated b z → HangsBelow V b z) (λ z c t. (z, 0, c, t, refl)) step c
      (there.0, in_right h a b split c there.0 there.1) there;
}
  where
    enters : (p c : ℕ) → Allocated h p → IsUnnamed V c → Allocated a c → get h p ≡ Some c → Allocated a p
    enters p c b un there e = let from = back c there un in
        subst (Allocated a) (own.one_predecessor c from.0 p un from.1 e) from.2

    step : (p : ℕ) → Allocated h p → IsUnnamed V (succ h p) → (Allocated b p → HangsBelow V b p)
        → Allocated b (succ h p) → HangsBelow V b (succ h p)
    step p (v, e) un hangs there = elim (in_part h a b split p v e) [
      | inl l ↦ absurd (parts_apart h a b (succ h p) split (on p (succ h p) (v, l) (at_succ h p (v, e)) un) there)
      | inr r ↦
          let from = hangs (v, r) in
          let next : succ b p ≡ succ h p = succ_at b p v r ∙ sym (succ_at h p v e) in
          (from.0, suc from.1, from.2, from.3, walk_suc b from.1 from.0 ∙ ap (succ b) from.4 ∙ next)
    ]

pub footprints_come_and_go : FootprintsComeAndGo
footprints_come_and_go V h a b s f split n m =
    let p = split_part h a b split in (
      λ own. owned_rest V h a b own split
          (λ c there un. let from = goes_back f s h V n c (covered f s a h m p c there) un in
          (from.0, from.1, covering f s a h m p from.0 from.2))
          (λ q c there e un. covering f s a h m p c (goes_on f s h V n q c (covered f s a h m p q there) e un)),
      λ own. owned_union V h a b split (owned_footprint f s V h a p n m) own,
    )

pub cells_come_and_go : CellsComeAndGo
cells_come_and_go V h a b x v split is at to = (
  λ own. owned_rest V h a b own split
      (λ c there un. absurd (un (subst (Contains V) (only_cell x v a is c there) at)))
      (λ q c there e un. let same : x ≡ q = only_cell x v a is q there in
      let here : get h q ≡ Some v = subst (λ r. get h r ≡ Some v) same (in_left h a b split x v is.here) in
      let content : v ≡ c = cc in
      absurd (un (subst (Contains V) content to))),
  λ own. owned_union V h a b split (owned_cell V a x v is at to) own,
)

-- as long as the walk in an owned part meets no name it is that in the whole
same_walk : (V : List ℕ) (h b : Heap) (x k : ℕ) → IsPart b h → Owned V b → Allocated b x
    → ((i : ℕ) → i < k → IsUnnamed V (walk b (suc i) x)) → (j : ℕ) → j ≤ suc k → walk h j x ≡ walk b j x
same_walk V h b x k p own a none zero l = refl
same_walk V h b x k p own a none (suc j) l =
    let at : get b (walk b j x) ≡ Some (walk b (suc j) x) = goes_through V b x own a k none j (omega arith) in
    walk_suc h j x ∙ ap (succ h) (same_walk V h b x k p own a none j (omega arith))
    ∙ succ_at h (walk b j x) (walk b (suc j) x) (p (walk b j x) (walk b (suc j) x) at)

unnamed_in_part : (V : List ℕ) (h b : Heap) (x k : ℕ) → IsPart b h → Owned V b → Allocated b x
    → ((i : ℕ) → i < k → IsUnnamed V (walk h (suc i) x)) → (i : ℕ) → i < k → IsUnnamed V (walk b (suc i) x)
unnamed_in_part V h b x zero p own a none i l = absurd (omega arith)
unnamed_in_part V h b x (suc k) p own a none i l =
    let before = unnamed_in_part V h b x k p own a (λ j m. none j (omega arith)) in
    subst (IsUnnamed V) (same_walk V h b x k p own a before (suc i) (omega arith)) (none i l)

pub hops_are_kept : HopsAreKept
hops_are_kept V h b x v p own a = (
  λ hop. let same = same_walk V h b x hop.between p own a hop.unnamed in record {
    allocated = (a.0, p x a.0 a.1);
    named = hop.named;
    between = hop.between;
    arrives = same (suc hop.between) (omega arith) ∙ hop.arrives;
    unnamed = λ i l. subst (IsUnnamed V) (sym (same (suc i) (omega arith))) (hop.unnamed i l);
  },
  λ hop. let none = unnamed_in_part V h b x hop.between p own a hop.unnamed in record {
    allocated = a;
    named = hop.named;
    between = hop.between;
    arrives = sym (same_walk V h b x hop.between p own a none (suc hop.between) (omega arith)) ∙ hop.arrives;
    unnamed = none;
  },
)
