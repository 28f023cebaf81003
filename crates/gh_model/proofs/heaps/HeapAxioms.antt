-- What represents an owned heap keeps the axioms.
use Rattle.std.specs.Prelude.{◌≡◌, ℕ, ◌<◌, List, Contains, Decides, IsTrue}
use Rattle.std.proofs.Common.{inl, inr}
use Rattle.gh_assert.specs.Heaps.{Heap}
use Rattle.gh_assert.specs.Walks.{succ, Between, Allocated}
use Rattle.gh_assert.specs.Hops.{Hop}
use Rattle.gh_assert.specs.Laws.{Rows, LinkRows}
use Rattle.gh_assert.proofs.Rows.{rows}
use Rattle.gh_assert.proofs.Hops.{hop_rows, hops_exist}
use Rattle.gh_assert.proofs.WalkLaws.{unallocated_stay}
use Rattle.gh_model.specs.Structures.{HeapStructure, IsOrdered, IsLinked}
use Rattle.gh_model.specs.Laws.{HeapsAreModels, RowsAreTheOrder, LinkRowsOf, KeepsCells, AreLinks, RowsAreTheLinks}

-- whatever else is said of its hops and cells
pub is_ordered : (V : List ℕ) (h : Heap) (m : HeapStructure)
    → ((x y z : ℕ) → Contains V x → Contains V y → Contains V z → Decides (m.between x y z) (Between h x y z))
    → IsOrdered (Contains V) (λ x y. x ≡ y) m
is_ordered V h m T = record {
  row_1 = λ x cx. (T x x x cx cx cx).1 (R.row_1 x);
  row_2 = λ x y cx cy b. R.row_2 x y ((T x y x cx cy cx).0 b);
  row_3 = λ x y z cx cy cz b c. elim (R.row_3 x y z ((T x y y cx cy cy).0 b) ((T x z z cx cz cz).0 c)) [
    | inl d ↦ inl ((T x y z cx cy cz).1 d)
    | inr d ↦ inr ((T x z y cx cz cy).1 d)
  ];
  row_4 = λ x y z cx cy cz b. (T x y y cx cy cy).1 (R.row_4 x y z ((T x y z cx cy cz).0 b));
  row_5 = λ x y z cx cy cz b. (T y z z cy cz cz).1 (R.row_5 x y z ((T x y z cx cy cz).0 b));
  row_6 = λ x y z cx cy cz b c. (T x z z cx cz cz).1 (R.row_6 x y z ((T x y y cx cy cy).0 b) ((T y z z cy cz cz).0 c));
  row_7 =
      λ x y u z cx cy cu cz b c. (T x y u cx cy cu).1
      (R.row_7 x y u z ((T x y z cx cy cz).0 b) ((T y u z cy cu cz).0 c));
  row_8 =
      λ x y u z cx cy cu cz b c. (T x u z cx cu cz).1
      (R.row_8 x y u z ((T x y z cx cy cz).0 b) ((T y u z cy cu cz).0 c));
  row_9 =
      λ x y u z cx cy cu cz b c. (T x u z cx cu cz).1
      (R.row_9 x y u z ((T x y z cx cy cz).0 b) ((T x u y cx cu cy).0 c));
  row_10 =
      λ x y u z cx cy cu cz b c. (T u y z cu cy cz).1
      (R.row_10 x y u z ((T x y z cx cy cz).0 b) ((T x u y cx cu cy).0 c));
}
  where
    R : Rows (Between h)
    R = rows (succ h)

pub heaps_are_models : HeapsAreModels
heaps_are_models V h m c0 null own T = record {
  ordered = is_ordered V h m T.between;
  linked = record {
    row_11 = λ x v cx cv a. (T.between x v v cx cv cv).1 (H.row_11 x v ((T.hop x v cx cv).0 a));
    row_12 = λ x v w cx cv cw a b. elim (H.row_12 x v w cw ((T.hop x v cx cv).0 a) ((T.between x w w cx cw cw).0 b)) [
      | inl back ↦ inl back
      | inr on ↦ inr ((T.between x v w cx cv cw).1 on)
    ];
    row_13 =
        λ x y cx cy b. elim (unallocated_stay h x y ((T.between x y y cx cy cy).0 b))
        [ inl a ↦ inl ((T.alloc x cx).1 a) | inr e ↦ inr e ];
    row_14 = λ x w cx cw a b. H.row_14 x w cw ((T.hop x x cx cx).0 a) ((T.between x w w cx cw cw).0 b);
    row_15 = λ x v cx cv a. (T.alloc x cx).1 (H.row_15 x v ((T.hop x v cx cv).0 a));
    null = λ a. let there = ((T.alloc 0 c0).0 a).1 in absurd cc;
    hops = λ x cx a. let next = hops_exist V h x null own cx ((T.alloc x cx).0 a) in
        (next.0, next.1.named, (T.hop x next.0 cx next.1.named).1 next.1);
  };
}
  where
    H : LinkRows (Contains V) (λ x y. x ≡ y) (Between h) (Hop V h) (Allocated h)
    H = (hop_rows V h).rows

to_order : (m : HeapStructure) → Rows (λ x y z. IsTrue (m.between x y z)) → IsOrdered (λ x. Unit {0}) (λ x y. x ≡ y) m
to_order m R = record {
  row_1 = λ x nx. R.row_1 x;
  row_2 = λ x y nx ny a. R.row_2 x y a;
  row_3 = λ x y z nx ny nz a b. R.row_3 x y z a b;
  row_4 = λ x y z nx ny nz a. R.row_4 x y z a;
  row_5 = λ x y z nx ny nz a. R.row_5 x y z a;
  row_6 = λ x y z nx ny nz a b. R.row_6 x y z a b;
  row_7 = λ x y u z nx ny nu nz a b. R.row_7 x y u z a b;
  row_8 = λ x y u z nx ny nu nz a b. R.row_8 x y u z a b;
  row_9 = λ x y u z nx ny nu nz a b. R.row_9 x y u z a b;
  row_10 = λ x y u z nx ny nu nz a b. R.row_10 x y u z a b;
}

to_rows : (m : HeapStructure) → IsOrdered (λ x. Unit {0}) (λ x y. x ≡ y) m → Rows (λ x y z. IsTrue (m.between x y z))
to_rows m O = record {
  row_1 = λ x. O.row_1 x tt;
  row_2 = λ x y a. O.row_2 x y tt tt a;
  row_3 = λ x y z a b. O.row_3 x y z tt tt tt a b;
  row_4 = λ x y z a. O.row_4 x y z tt tt tt a;
  row_5 = λ x y z a. O.row_5 x y z tt tt tt a;
  row_6 = λ x y z a b. O.row_6 x y z tt tt tt a b;
  row_7 = λ x y u z a b. O.row_7 x y u z tt tt tt tt a b;
  row_8 = λ x y u z a b. O.row_8 x y u z tt tt tt tt a b;
  row_9 = λ x y u z a b. O.row_9 x y u z tt tt tt tt a b;
  row_10 = λ x y u z a b. O.row_10 x y u z tt tt tt tt a b;
}

pub rows_are_the_order : RowsAreTheOrder
rows_are_the_order m = (to_order m, to_rows m)

to_links : (N : ℕ → Type 0) (E : ℕ → ℕ → Type 0) (m : HeapStructure) → LinkRowsOf N E m × KeepsCells N E m
    → IsLinked N E m
to_links N E m K = record {
  row_11 = λ x v nx nv a. K.0.row_11 x v (nx, nv, a);
  row_12 = λ x v w nx nv nw a b. K.0.row_12 x v w nw (nx, nv, a) b;
  row_13 = K.1.row_13;
  row_14 = λ x w nx nw a b. K.0.row_14 x w nw (nx, nx, a) b;
  row_15 = λ x v nx nv a. K.0.row_15 x v (nx, nv, a);
  null = K.1.null;
  hops = K.1.hops;
}

from_links : (N : ℕ → Type 0) (E : ℕ → ℕ → Type 0) (m : HeapStructure) → IsLinked N E m
    → LinkRowsOf N E m × KeepsCells N E m
from_links N E m L = (
  record {
    row_11 = λ x v a. L.row_11 x v a.0 a.1 a.2;
    row_12 = λ x v w nw a b. L.row_12 x v w a.0 a.1 nw a.2 b;
    row_14 = λ x w nw a b. L.row_14 x w a.0 nw a.2 b;
    row_15 = λ x v a. L.row_15 x v a.0 a.1 a.2;
  },
  record { row_13 = L.row_13; null = L.null; hops = L.hops },
)

are_links : (N : ℕ → Type 0) (E : ℕ → ℕ → Type 0) (m : HeapStructure) → AreLinks N E m
are_links N E m = (to_links N E m, from_links N E m)

pub rows_are_the_links : RowsAreTheLinks
rows_are_the_links = record {
  values = λ V m. are_links (Contains V) (λ x y. x ≡ y) m;
  terms = λ equal n m. are_links (λ t. t < n) (λ x y. IsTrue (equal x y)) m;
}
