-- A structure that depicts a heap, owned or not.
use Rattle.std.specs.Prelude.{◌≡◌, ◌⊎◌, ℕ, zero, suc, ◌<◌, List, length, Bool, false, ◌==◌, is_some, None, Contains}
use Rattle.std.specs.Prelude.{Decides}
use Rattle.std.specs.FinMap.{get, entries}
use Rattle.std.proofs.lemmas.Bool.{cases_eq, eqb-true, eq-eqb, false≢true}
use Rattle.std.proofs.Common.{refl, sym, ◌∙◌, subst, inl, inr, arith}
use Rattle.gh_assert.specs.Heaps.{Heap}
use Rattle.gh_assert.specs.Walks.{succ, walk, Allocated, Between}
use Rattle.gh_assert.specs.Tests.{is_between}
use Rattle.gh_assert.specs.Ownership.{IsUnnamed}
use Rattle.gh_assert.specs.Hops.{Hop}
use Rattle.gh_assert.proofs.Cells.{allocated_or, succ_stays}
use Rattle.gh_assert.proofs.Steps.{distance_from}
use Rattle.gh_assert.proofs.Rows.{rows}
use Rattle.gh_assert.proofs.Hops.{hop_rows}
use Rattle.gh_assert.proofs.Owned.{named_or}
use Rattle.gh_assert.proofs.Tests.{walk_short, tests_decide}
use Rattle.gh_assert.proofs.WalkLaws.{unallocated_stay}
use Rattle.gh_model.specs.Structures.{IsModelOver}
use Rattle.gh_model.specs.Laws.{IsBuilt}
use Rattle.gh_model.proofs.heaps.Representation.{one_hop, some_decides}
use Rattle.gh_model.proofs.heaps.HeapAxioms.{is_ordered}
use Rattle.gh_model.proofs.heaps.BuiltHeap.{models_are_built, succ_named}
use Rattle.gh_model.proofs.heaps.HeapSteps.{next_is_successor}
use Rattle.gh_entail.specs.Hops.{Strays, Heads}
use Rattle.gh_entail.specs.Laws.{DepictionsExist, DepictionsAreModels, DepictionsLookAlike}

-- among the first steps one meets a named value first, or none does
first_met : (V : List ℕ) (h : Heap) (x : ℕ) → Allocated h x → (k : ℕ)
    → ((i : ℕ) → i < k → IsUnnamed V (walk h (suc i) x)) ⊎ ((v : ℕ) × Hop V h x v)
first_met V h x a zero = inl (λ i l. absurd (omega arith))
first_met V h x a (suc k) = elim (first_met V h x a k) [
  | inr hop ↦ inr hop
  | inl none ↦ elim (named_or V (walk h (suc k) x)) [
    | inl named ↦ inr (
      walk h (suc k) x,
      record { allocated = a; named = named; between = k; arrives = refl; unnamed = none },
    )
    | inr out ↦ inl (λ i l. elim (cases_eq i k) [
      | inl same ↦ subst (λ j. IsUnnamed V (walk h (suc j) x)) (sym same) out
      | inr other ↦ none i (omega arith)
    ])
  ]
]

-- what is met at all is met in as many steps as there are cells
never_met : (V : List ℕ) (h : Heap) (x : ℕ) → get h 0 ≡ None
    → ((i : ℕ) → i < suc (length (entries h)) → IsUnnamed V (walk h (suc i) x)) → (i : ℕ)
    → IsUnnamed V (walk h (suc i) x)
never_met V h x null none i c =
    let d = distance_from (succ h) i (succ h x) (walk h (suc i) x) refl in
    none d.0 (omega (arith, walk_short h (succ h x) (walk h (suc i) x) d.0 null d.1))
    (subst (Contains V) (sym d.1.arrives) c)

heads_exist : (V : List ℕ) (h : Heap) (x : ℕ) → get h 0 ≡ None → Allocated h x → (v : ℕ) × Heads V h x v
heads_exist V h x null a = elim (first_met V h x a (suc (length (entries h)))) [
  | inr (v, hop) ↦ (v, inl hop)
  | inl none ↦ (x, inr (record { allocated = a; unnamed = never_met V h x null none }, refl))
]

heads_from : (V : List ℕ) (h : Heap) (x v : ℕ) → Heads V h x v → Allocated h x
heads_from V h x v (inl hop) = hop.allocated
heads_from V h x v (inr (stray, same)) = stray.allocated

one_head : (V : List ℕ) (h : Heap) (x v w : ℕ) → Heads V h x v → Heads V h x w → v ≡ w
one_head V h x v w (inl t) (inl u) = one_hop V h x v w t u
one_head V h x v w (inl t) (inr (stray, same)) =
    absurd (stray.unnamed t.between (subst (Contains V) (sym t.arrives) t.named))
one_head V h x v w (inr (stray, same)) (inl u) =
    absurd (stray.unnamed u.between (subst (Contains V) (sym u.arrives) u.named))
one_head V h x v w (inr (stray, same)) (inr (stray', same')) = sym same ∙ same'

abbrev MaybeHead : List ℕ → Heap → ℕ → Type 0
MaybeHead V h x = ((w : ℕ) × Heads V h x w) ⊎ (Allocated h x → ⊥)

maybe_head : (V : List ℕ) (h : Heap) → get h 0 ≡ None → (x : ℕ) → MaybeHead V h x
maybe_head V h null x =
    elim (allocated_or h x) [
      | inl a ↦ inl (heads_exist V h x null a)
      | inr none ↦ inr
          (λ a. let there = a.1 in absurd cc)
    ]

abbrev heads_to : (V : List ℕ) (h : Heap) (x v : ℕ) → MaybeHead V h x → Bool
heads_to V h x v (inl (w, t)) = w == v
heads_to V h x v (inr none) = false

heads_decide : (V : List ℕ) (h : Heap) (x v : ℕ) (o : MaybeHead V h x) → Decides (heads_to V h x v o) (Heads V h x v)
heads_decide V h x v (inl (w, t)) =
    (λ e. subst (Heads V h x) (eqb-true w v e) t, λ u. eq-eqb w v (one_head V h x w v t u))
heads_decide V h x v (inr none) = (λ e. absurd (false≢true e), λ u. absurd (none (heads_from V h x v u)))

pub depictions_exist : DepictionsExist
depictions_exist V h null = (
  record {
    between = is_between h;
    hop = λ x v. heads_to V h x v (maybe_head V h null x);
    alloc = λ x. is_some (get h x);
  },
  record {
    alloc = λ x cx. some_decides (get h x);
    heads = λ x v cx cv. heads_decide V h x v (maybe_head V h null x);
    between = λ x y z cx cy cz. (tests_decide h null).1 x y z;
  },
)

-- a stray cell reaches itself alone of the named values
stray_alone : (V : List ℕ) (h : Heap) (x w : ℕ) → Strays V h x → Contains V w → (n : ℕ) → walk h n x ≡ w → w ≡ x
stray_alone V h x w stray cw zero e = sym e
stray_alone V h x w stray cw (suc i) e = absurd (stray.unnamed i (subst (Contains V) (sym e) cw))

head_reached : (V : List ℕ) (h : Heap) (x v : ℕ) → Heads V h x v → Between h x v v
head_reached V h x v (inl hop) = (hop_rows V h).rows.row_11 x v hop
head_reached V h x v (inr (stray, same)) = subst (λ u. Between h x u u) same ((rows (succ h)).row_1 x)

head_first : (V : List ℕ) (h : Heap) (x v w : ℕ) → Contains V w → Heads V h x v → Between h x w w
    → (w ≡ x) ⊎ Between h x v w
head_first V h x v w cw (inl hop) b = (hop_rows V h).rows.row_12 x v w cw hop b
head_first V h x v w cw (inr (stray, same)) b = inl (stray_alone V h x w stray cw b.end b.distance.arrives)

head_back : (V : List ℕ) (h : Heap) (x w : ℕ) → Contains V w → Heads V h x x → Between h x w w → w ≡ x
head_back V h x w cw (inl hop) b = (hop_rows V h).rows.row_14 x w cw hop b
head_back V h x w cw (inr (stray, same)) b = stray_alone V h x w stray cw b.end b.distance.arrives

head_named : (V : List ℕ) (h : Heap) (x v : ℕ) → Contains V x → Heads V h x v → Contains V v
head_named V h x v cx (inl hop) = hop.named
head_named V h x v cx (inr (stray, same)) = subst (Contains V) same cx

pub depictions_are_models : DepictionsAreModels
depictions_are_models V h m null c0 T = record {
  ordered = is_ordered V h m T.between;
  linked = record {
    row_11 = λ x v cx cv a. (T.between x v v cx cv cv).1 (head_reached V h x v ((T.heads x v cx cv).0 a));
    row_12 =
        λ x v w cx cv cw a b. elim (head_first V h x v w cw ((T.heads x v cx cv).0 a) ((T.between x w w cx cw cw).0 b)) [
          | inl back ↦ inl back
          | inr on' ↦ inr ((T.between x v w cx cv cw).1 on')
        ];
    row_13 =
        λ x y cx cy b. elim (unallocated_stay h x y ((T.between x y y cx cy cy).0 b))
        [ inl a ↦ inl ((T.alloc x cx).1 a) | inr e ↦ inr e ];
    row_14 = λ x w cx cw a b. head_back V h x w cw ((T.heads x x cx cx).0 a) ((T.between x w w cx cw cw).0 b);
    row_15 = λ x v cx cv a. (T.alloc x cx).1 (heads_from V h x v ((T.heads x v cx cv).0 a));
    null = λ a. let there = ((T.alloc 0 c0).0 a).1 in absurd cc;
    hops = λ x cx a.
        let next = heads_exist V h x null ((T.alloc x cx).0 a) in
        let named = head_named V h x next.0 cx next.1 in
        (next.0, named, (T.heads x next.0 cx named).1 next.1);
  };
}

-- its built heap has the cells, the walks and the named contents of the heap
pub depictions_look_alike : DepictionsLookAlike
depictions_look_alike V h m null c0 T = record {
  alloc = λ x cx. (
    λ a. (B.represents.alloc x cx).0 ((T.alloc x cx).1 a),
    λ a. (T.alloc x cx).0 ((B.represents.alloc x cx).1 a),
  );
  between =
      λ x y z cx cy cz. (
        λ b. (B.represents.between x y z cx cy cz).0 ((T.between x y z cx cy cz).1 b),
        λ b. (T.between x y z cx cy cz).0 ((B.represents.between x y z cx cy cz).1 b),
      );
  follows =
      λ x cx cs. next_is_successor V m M x (succ h x) cx cs
      (λ a. (T.heads x (succ h x) cx cs).1 (inl ((hop_rows V h).content x ((T.alloc x cx).0 a) cs)))
      (elim (allocated_or h x) [
        | inl a ↦ inl ((T.alloc x cx).1 a)
        | inr none ↦ inr (sym (succ_stays h x none))
      ]);
  inside = succ_named V m M;
}
  where
    M : IsModelOver V m
    M = depictions_are_models V h m null c0 T

    B : IsBuilt V m
    B = models_are_built V m M
