-- From steps between structures to steps between their built heaps.
use Rattle.std.specs.Prelude.{◌≡◌, ◌↔◌, ℕ, List, IsTrue, Option, Some, None, Contains}
use Rattle.std.specs.FinMap.{get}
use Rattle.std.proofs.Common.{refl, sym, ◌∙◌, ap, inl, inr}
use Rattle.gh_ast.specs.Plain.{Assertion}
use Rattle.gh_assert.specs.Heaps.{Heap, Splits, IsPart, or_else}
use Rattle.gh_assert.specs.Meaning.{Store, Meaning}
use Rattle.gh_assert.proofs.Unique.{right_at}
use Rattle.gh_assert.specs.Walks.{Allocated}
use Rattle.gh_assert.proofs.Cells.{allocated_or, succ_at, succ_stays}
use Rattle.gh_assert.proofs.Unions.{without, part_splits, parts_apart, in_either}
use Rattle.gh_model.specs.Structures.{HeapStructure, IsModelOver}
use Rattle.gh_model.specs.BuiltHeaps.{built}
use Rattle.gh_model.specs.Operands.{IsNamed}
use Rattle.gh_model.specs.Representations.{IsInside, AgreeOn}
use Rattle.gh_model.specs.Transitions.{KeepsHops, IsSetAside, StepsByCall, IsAwayFrom}
use Rattle.gh_model.specs.Laws.{NextIsSuccessor, WritesAreBuilt, NewsAreBuilt, FreesAreBuilt, CallsAreBuilt}
use Rattle.gh_model.proofs.heaps.BuiltHeap.{contents_are_hops, cell_at, alloc_at}
use Rattle.gh_model.proofs.heaps.Agreement.{built_agrees}

pub next_is_successor : NextIsSuccessor
next_is_successor V m M x t cx ct goes stays = elim (allocated_or (built V m) x) [
  | inl a ↦ succ_at (built V m) x t ((contents_are_hops V m M x t).1 (cx, ct, goes (alloc_at V m x a)))
  | inr out ↦ elim stays [
    | inl a ↦ let there = (cell_at V m M x cx a).1 in absurd cc
    | inr same ↦ succ_stays (built V m) x out ∙ same
  ]
]

not_alloc : (V : List ℕ) (m : HeapStructure) (x : ℕ) → (IsTrue (m.alloc x) → ⊥) → get (built V m) x ≡ None
not_alloc V m x off = elim (allocated_or (built V m) x) [ inl a ↦ absurd (off (alloc_at V m x a)) | inr none ↦ none ]

same_option : (o p : Option ℕ) → ((v : ℕ) → o ≡ Some v → p ≡ Some v) → ((v : ℕ) → p ≡ Some v → o ≡ Some v) → o ≡ p
same_option (Some v) p f g = sym (f v refl)
same_option None None f g = refl
same_option None (Some v) f g = g v refl

-- cells whose hops are kept have the same content
kept_content : (V : List ℕ) (m n : HeapStructure) → IsModelOver V m → IsModelOver V n → (z v : ℕ)
    → (Contains V z → Contains V v → IsTrue (m.hop z v) → IsTrue (n.hop z v)) → get (built V m) z ≡ Some v
    → get (built V n) z ≡ Some v
kept_content V m n M N z v keep e =
    let hop = (contents_are_hops V m M z v).0 e in
    (contents_are_hops V n N z v).1 (hop.0, hop.1, keep hop.0 hop.1 hop.2)

kept_away : (V : List ℕ) (m n : HeapStructure) → IsModelOver V m → IsModelOver V n → (x : ℕ) → KeepsHops V m n x
    → IsAwayFrom x (built V m) (built V n)
kept_away V m n M N x kept z away = same_option (get (built V n) z) (get (built V m) z)
    (λ v. kept_content V n m N M z v (λ cz cv. (kept z v cz cv away).0))
    (λ v. kept_content V m n M N z v (λ cz cv. (kept z v cz cv away).1))

pub writes_are_built : WritesAreBuilt
writes_are_built V m n M N x v cx cv S =
    record { here = (contents_are_hops V n N x v).1 (cx, cv, S.here); elsewhere = kept_away V m n M N x S.kept }

pub news_are_built : NewsAreBuilt
news_are_built V m n M N x v cx cv S = (
  not_alloc V m x S.fresh,
  record { here = (contents_are_hops V n N x v).1 (cx, cv, S.here); elsewhere = kept_away V m n M N x S.kept },
)

pub frees_are_built : FreesAreBuilt
frees_are_built V m n M N x cx S =
    record { here = not_alloc V n x (λ a. ((S.alloc x cx).0 a).1 refl); elsewhere = kept_away V m n M N x S.kept }

-- the parts of a call: a meets p in the heap of m, c meets q in that of n
record IsParted (V : List ℕ) (m n : HeapStructure) (p q : Assertion) (s t : Store) : Type 0 where
  a : Heap
  b : Heap
  c : Heap
  before : Splits (built V m) a b
  part : IsPart a (built V m)
  back : IsPart c (built V n)
  meets : Meaning p s a
  returns : Meaning q t c
  given : (z : ℕ) → Contains V z → Allocated a z ↔ IsInside p s m z
  got : (z : ℕ) → Contains V z → Allocated c z ↔ IsInside q t n z

parted : (V : List ℕ) (m n : HeapStructure) (p q : Assertion) (s t : Store) → IsModelOver V m → IsModelOver V n
    → IsNamed p s V → IsNamed q t V → StepsByCall V m n p q s t → IsParted V m n p q s t
parted V m n p q s t M N np nq S =
    let starts : AgreeOn V (built V m) m s p = built_agrees V m s p M np in
    let ends : AgreeOn V (built V n) n t q = built_agrees V n t q N nq in
    let first = starts.part.0 S.before in
    let last = ends.part.0 S.after in
    record {
      a = first.0;
      b = without (built V m) first.0;
      c = last.0;
      before = part_splits first.0 (built V m) first.1;
      part = first.1;
      back = last.1;
      meets = first.2;
      returns = last.2;
      given = starts.footprint first.0 first.1 first.2;
      got = ends.footprint last.0 last.1 last.2;
    }

-- a cell of the rest is a hop of m, and kept
rest_kept : (V : List ℕ) (m n : HeapStructure) (p q : Assertion) (s t : Store) → IsModelOver V m
    → (R : IsParted V m n p q s t) → (z v : ℕ) → get R.b z ≡ Some v
    → (Contains V z × Contains V v × IsTrue (m.hop z v)) × IsSetAside p s m z
rest_kept V m n p q s t M R z v e =
    let there : get (built V m) z ≡ Some v =
    right_at (get (built V m) z) (get R.a z) (get R.b z) v (R.before.disjoint z) (R.before.union z) e in
    let hop = (contents_are_hops V m M z v).0 there in
    (hop, (alloc_at V m z (v, there), λ i. parts_apart (built V m) R.a R.b z R.before ((R.given z hop.0).1 i) (v, e)))

-- and what is kept is a cell of the rest
kept_rest : (V : List ℕ) (m n : HeapStructure) (p q : Assertion) (s t : Store) → IsModelOver V m
    → (R : IsParted V m n p q s t) → (z : ℕ) → Contains V z → IsSetAside p s m z → Allocated R.b z
kept_rest V m n p q s t M R z cz k =
    let there = cell_at V m M z cz k.0 in
    elim (in_either (built V m) R.a R.b z there.0 (R.before.union z) there.1) [
      | inl e ↦ absurd (k.1 ((R.given z cz).0 (there.0, e)))
      | inr e ↦ (there.0, e)
    ]

-- the rest is a part of the heap of n
rest_part : (V : List ℕ) (m n : HeapStructure) (p q : Assertion) (s t : Store) → IsModelOver V m → IsModelOver V n
    → StepsByCall V m n p q s t → (R : IsParted V m n p q s t) → IsPart R.b (built V n)
rest_part V m n p q s t M N S R z v e =
    let (hop, k) = rest_kept V m n p q s t M R z v e in
    (contents_are_hops V n N z v).1 (hop.0, hop.1, (S.kept z v hop.0 hop.1 k).1 hop.2)

-- a cell of n that isn't given back is a cell of the rest
other_rest : (V : List ℕ) (m n : HeapStructure) (p q : Assertion) (s t : Store) → IsModelOver V m → IsModelOver V n
    → StepsByCall V m n p q s t → (R : IsParted V m n p q s t) → (z v : ℕ) → get R.c z ≡ None
    → get (built V n) z ≡ Some v → get R.b z ≡ Some v
other_rest V m n p q s t M N S R z v none e =
    let cz : Contains V z = ((contents_are_hops V n N z v).0 e).0 in
    elim ((S.alloc z cz).0 (alloc_at V n z (v, e))) [
      | inl k ↦
          let there = kept_rest V m n p q s t M R z cz k in
          there.1 ∙ sym (rest_part V m n p q s t M N S R z there.0 there.1) ∙ e
      | inr i ↦ let there = ((R.got z cz).1 i).1 in absurd cc
    ]

pub calls_are_built : CallsAreBuilt
calls_are_built V m n p q s t M N np nq S = record {
  given = R.a;
  back = R.c;
  rest = R.b;
  before = R.before;
  after = record {
    disjoint = λ z. elim (allocated_or R.c z) [
      | inr none ↦ inl none
      | inl here ↦ elim (allocated_or R.b z) [
        | inr none ↦ inr none
        | inl (v, e) ↦
            let (hop, k) = rest_kept V m n p q s t M R z v e in
            absurd (S.apart z hop.0 k ((R.got z hop.0).0 here))
      ]
    ];
    union = λ z. elim (allocated_or R.c z) [
      | inl (v, e) ↦ R.back z v e ∙ sym (ap (λ o. or_else o (get R.b z)) e)
      | inr none ↦ same_option (get (built V n) z) (get R.b z) (λ v. other_rest V m n p q s t M N S R z v none)
          (rest_part V m n p q s t M N S R z) ∙ sym (ap (λ o. or_else o (get R.b z)) none)
    ];
  };
  meets = R.meets;
  returns = R.returns;
}
  where
    R : IsParted V m n p q s t
    R = parted V m n p q s t M N np nq S
