-- From steps between heaps to steps between the structures that represent them.
use Rattle.std.specs.Prelude.{◌≡◌, ◌≢◌, ◌↔◌, ℕ, List, Some, None, IsTrue, Contains}
use Rattle.std.specs.FinMap.{get, remove}
use Rattle.std.proofs.Common.{refl, sym, ◌∙◌, ap, subst, inl, inr}
use Rattle.std.proofs.lemmas.Bool.{cases_eq}
use Rattle.gh_assert.specs.Heaps.{Heap, IsProper, IsPart}
use Rattle.gh_assert.specs.Walks.{succ, Allocated}
use Rattle.gh_assert.specs.Ownership.{Owned}
use Rattle.gh_assert.specs.Hops.{Hop}
use Rattle.gh_assert.proofs.Cells.{succ_at}
use Rattle.gh_assert.proofs.Hops.{hop_rows}
use Rattle.gh_assert.proofs.Kept.{cells_come_and_go, footprints_come_and_go, hops_are_kept}
use Rattle.gh_assert.proofs.Splitting.{symmetric}
use Rattle.gh_assert.proofs.Unions.{one_cell, is_one_cell, in_either, split_part, parts_apart}
use Rattle.gh_assert.proofs.Unique.{get_removed, get_kept}
use Rattle.gh_model.specs.Structures.{HeapStructure}
use Rattle.gh_model.specs.Representations.{Represents, AgreeOn}
use Rattle.gh_model.specs.Transitions.{IsSetAside, IsAwayFrom, IsPut}
use Rattle.gh_model.specs.StepLaws.{AreRepresented, WritesAreRepresented, NewsAreRepresented, FreesAreRepresented}
use Rattle.gh_model.specs.StepLaws.{CallsAreRepresented}
use Rattle.gh_model.proofs.heaps.Agreement.{assertions_agree}
use Rattle.gh_model.proofs.ownership.Updates.{cell_off, not_null}

-- from the cells of a part that two heaps share the hops are the same
shared : (V : List ℕ) (h k b : Heap) (z v : ℕ) → IsPart b h → IsPart b k → Owned V b → (Allocated h z → Allocated b z)
    → (Allocated k z → Allocated b z) → Hop V k z v ↔ Hop V h z v
shared V h k b z v ph pk own from_h from_k = (
  λ t. let a = from_k t.allocated in (hops_are_kept V h b z v ph own a).0 ((hops_are_kept V k b z v pk own a).1 t),
  λ t. let a = from_h t.allocated in (hops_are_kept V k b z v pk own a).0 ((hops_are_kept V h b z v ph own a).1 t),
)

-- and so are the structures' hops
shared_hops : (V : List ℕ) (h k : Heap) (m n : HeapStructure) → AreRepresented V h k m n → (b : Heap) (z v : ℕ)
    → Contains V z → Contains V v → IsPart b h → IsPart b k → Owned V b → (Allocated h z → Allocated b z)
    → (Allocated k z → Allocated b z) → IsTrue (n.hop z v) ↔ IsTrue (m.hop z v)
shared_hops V h k m n T b z v cz cv ph pk own from_h from_k =
    let same = shared V h k b z v ph pk own from_h from_k in
    let one = T.represents.hop z v cz cv in
    let two = T.represents_after.hop z v cz cv in
    (λ e. one.1 (same.0 (two.0 e)), λ e. two.1 (same.1 (one.0 e)))

-- the hop to a named content
hop_here : (V : List ℕ) (k : Heap) (n : HeapStructure) → Represents V k n → (x v : ℕ) → Contains V x → Contains V v
    → get k x ≡ Some v → IsTrue (n.hop x v)
hop_here V k n T x v cx cv e =
    let at : succ k x ≡ v = succ_at k x v e in
    (T.hop x v cx cv).1 (subst (Hop V k x) at ((hop_rows V k).content x (v, e) (subst (Contains V) (sym at) cv)))

-- away from x a cell stays
away_part : (h k : Heap) (x : ℕ) → IsAwayFrom x h k → IsPart (remove h x) k
away_part h k x away q v e = elim (cases_eq q x) [
  | inl same ↦ let none : get (remove h x) q ≡ None = ap (get (remove h x)) same ∙ get_removed h x in absurd cc
  | inr other ↦ away q other ∙ sym (get_kept h x q other) ∙ e
]

removed_part : (h : Heap) (x : ℕ) → IsPart (remove h x) h
removed_part h x = away_part h h x (λ q other. refl)

in_removed : (h : Heap) (x z : ℕ) → z ≢ x → Allocated h z → Allocated (remove h x) z
in_removed h x z other a = (a.0, get_kept h x z other ∙ a.1)

before_put : (h k : Heap) (x z : ℕ) → IsAwayFrom x h k → z ≢ x → Allocated k z → Allocated h z
before_put h k x z away other a = (a.0, sym (away z other) ∙ a.1)

after_put : (h k : Heap) (x z : ℕ) → IsAwayFrom x h k → z ≢ x → Allocated h z → Allocated k z
after_put h k x z away other a = (a.0, away z other ∙ a.1)

-- the heap after a write, without the cell
rest_owned : (V : List ℕ) (h k : Heap) (x v : ℕ) → IsProper k → Owned V k → Contains V x → Contains V v → IsPut h k x v
    → Owned V (remove k x)
rest_owned V h k x v proper own cx cv put =
    (cells_come_and_go V k (one_cell x v) (remove k x) x v (cell_off k x v put.here)
    (is_one_cell x v (not_null k x v proper put.here)) cx cv).0 own

pub writes_are_represented : WritesAreRepresented
writes_are_represented V h k m n T x v cx cv a put = record {
  alloc = λ z cz.
      let one = T.represents.alloc z cz in
      let two = T.represents_after.alloc z cz in
      elim (cases_eq z x) [
        | inl same ↦ (
          λ e. one.1 (subst (Allocated h) (sym same) a),
          λ e. two.1 (subst (Allocated k) (sym same) (v, put.here)),
        )
        | inr other ↦ (
          λ e. one.1 (before_put h k x z put.elsewhere other (two.0 e)),
          λ e. two.1 (after_put h k x z put.elsewhere other (one.0 e)),
        )
      ];
  here = hop_here V k n T.represents_after x v cx cv put.here;
  kept = λ z w cz cw other.
      shared_hops V h k m n T (remove k x) z w cz cw (away_part k h x (λ q away. sym (put.elsewhere q away)))
      (removed_part k x) (rest_owned V h k x v T.proper_after T.owned_after cx cv put)
      (λ b. in_removed k x z other (after_put h k x z put.elsewhere other b)) (in_removed k x z other);
}

pub news_are_represented : NewsAreRepresented
news_are_represented V h k m n T x v cx cv fresh put = record {
  fresh = λ e. let there = (T.represents.alloc x cx).0 e in let some : get h x ≡ Some there.0 = there.1 in absurd cc;
  alloc = λ z cz.
      let one = T.represents.alloc z cz in
      let two = T.represents_after.alloc z cz in (
        λ e. elim (cases_eq z x) [
          | inl same ↦ inr same
          | inr other ↦ inl
              (one.1 (before_put h k x z put.elsewhere other (two.0 e)))
        ],
        λ u. elim u [
          | inl e ↦ elim (cases_eq z x) [
            | inl same ↦ two.1 (subst (Allocated k) (sym same) (v, put.here))
            | inr other ↦ two.1 (after_put h k x z put.elsewhere other (one.0 e))
          ]
          | inr same ↦ two.1 (subst (Allocated k) (sym same) (v, put.here))
        ],
      );
  here = hop_here V k n T.represents_after x v cx cv put.here;
  kept = λ z w cz cw other.
      shared_hops V h k m n T h z w cz cw (λ q u e. e) old T.owned (λ b. b) (before_put h k x z put.elsewhere other);
}
  where
    old : IsPart h k
    old q u e = elim (cases_eq q x) [
      | inl same ↦ let none : get h q ≡ None = ap (get h) same ∙ fresh in absurd cc
      | inr other ↦ put.elsewhere q other ∙ e
    ]

pub frees_are_represented : FreesAreRepresented
frees_are_represented V h k m n T x cx freed = record {
  alloc = λ z cz.
      let one = T.represents.alloc z cz in
      let two = T.represents_after.alloc z cz in (
        λ e. (
            let there = two.0 e in
            elim (cases_eq z x) [
              | inl same ↦ let some : get k z ≡ Some there.0 = there.1 in
                  let none : get k z ≡ None = ap (get k) same ∙ freed.here in absurd cc
              | inr other ↦ (one.1 (before_put h k x z freed.elsewhere other there), other)
            ]
            ),
        λ u. two.1 (after_put h k x z freed.elsewhere u.1 (one.0 u.0)),
      );
  kept = λ z w cz cw other. shared_hops V h k m n T k z w cz cw part (λ q u e. e) T.owned_after
      (after_put h k x z freed.elsewhere other) (λ b. b);
}
  where
    part : IsPart k h
    part q u e = elim (cases_eq q x) [
      | inl same ↦ let none : get k q ≡ None = ap (get k) same ∙ freed.here in absurd cc
      | inr other ↦ sym (freed.elsewhere q other) ∙ e
    ]

pub calls_are_represented : CallsAreRepresented
calls_are_represented V h k m n p q s t T np nq C = record {
  before = before.part.1 (C.given, given, C.meets);
  after = after.part.1 (C.back, back, C.returns);
  apart =
      λ z cz kept inside. parts_apart k C.back C.rest z C.after ((after.footprint C.back back C.returns z cz).1 inside)
      (in_rest z cz kept);
  alloc = λ z cz.
      let two = T.represents_after.alloc z cz in (
        λ e. (
            let there = two.0 e in
            elim (in_either k C.back C.rest z there.0 (C.after.union z) there.1) [
              | inl b ↦ inr ((after.footprint C.back back C.returns z cz).0 (there.0, b))
              | inr b ↦ inl (
                (T.represents.alloc z cz).1 (there.0, rest z there.0 b),
                λ inside. parts_apart h C.given C.rest z C.before
                    ((before.footprint C.given given C.meets z cz).1 inside) (there.0, b),
              )
            ]
            ),
        λ u. elim u [
          | inl kept ↦ let b = in_rest z cz kept in two.1 (b.0, rest' z b.0 b.1)
          | inr inside ↦ let b = (after.footprint C.back back C.returns z cz).1 inside in two.1 (b.0, back z b.0 b.1)
        ],
      );
  kept = λ z v cz cv kept. shared_hops V h k m n T C.rest z v cz cv rest rest' own (λ a. in_rest z cz kept)
      (λ a. in_rest z cz kept);
}
  where
    before : AgreeOn V h m s p
    before = assertions_agree V h m s p T.proper T.owned T.represents np

    after : AgreeOn V k n t q
    after = assertions_agree V k n t q T.proper_after T.owned_after T.represents_after nq

    given : IsPart C.given h
    given = split_part h C.given C.rest C.before

    back : IsPart C.back k
    back = split_part k C.back C.rest C.after

    rest : IsPart C.rest h
    rest = split_part h C.rest C.given (symmetric h C.given C.rest C.before)

    rest' : IsPart C.rest k
    rest' = split_part k C.rest C.back (symmetric k C.back C.rest C.after)

    own : Owned V C.rest
    own = (footprints_come_and_go V h C.given C.rest s p C.before np C.meets).0 T.owned

    in_rest : (z : ℕ) → Contains V z → IsSetAside p s m z → Allocated C.rest z
    in_rest z cz kept =
        let there = (T.represents.alloc z cz).0 kept.0 in
        elim (in_either h C.given C.rest z there.0 (C.before.union z) there.1) [
          | inl b ↦ absurd (kept.1 ((before.footprint C.given given C.meets z cz).0 (there.0, b)))
          | inr b ↦ (there.0, b)
        ]
