-- The built heap.
use Rattle.std.specs.Prelude.{◌≡◌, ◌↔◌, ℕ, zero, suc, ◌<◌, List, IsTrue, Some, None, Contains}
use Rattle.std.specs.FinMap.{get}
use Rattle.std.proofs.lemmas.Bool.{both_ways}
use Rattle.std.proofs.Common.{sym, ◌∙◌, ap, subst, inl, inr, arith}
use Rattle.gh_ast.specs.Plain.{Assertion, empty, comparison, points_to, cell, segment, star, cases, Assertions}
use Rattle.gh_ast.specs.Plain.{no_assertions, assertion_first}
use Rattle.gh_assert.specs.Heaps.{Heap}
use Rattle.gh_assert.specs.Meaning.{Store}
use Rattle.gh_assert.specs.Walks.{succ, walk, Allocated}
use Rattle.gh_assert.specs.Ownership.{IsUnnamed, Owned}
use Rattle.gh_assert.specs.Hops.{Hop}
use Rattle.gh_assert.specs.Reading.{HasNames, HaveNames}
use Rattle.gh_assert.proofs.Cells.{allocated_or, succ_at, succ_stays}
use Rattle.gh_assert.proofs.Hops.{hop_rows}
use Rattle.gh_assert.proofs.Reading.{reading}
use Rattle.gh_model.specs.Structures.{HeapStructure, IsModelOver}
use Rattle.gh_model.specs.BuiltHeaps.{first, built}
use Rattle.gh_model.specs.Operands.{IsNamed, AreNamed}
use Rattle.gh_model.specs.Laws.{ContentsAreHops, ModelsAreBuilt, BuiltIsRead}
use Rattle.gh_model.proofs.heaps.Cells.{first_passes, cell_from, cell_of}
use Rattle.gh_model.proofs.heaps.Reachability.{hops_agree, FollowsHops, walk_between, between_walk}

pub contents_are_hops : ContentsAreHops
contents_are_hops V m M x v = (to, from)
  where
    to : get (built V m) x ≡ Some v → Contains V x × Contains V v × IsTrue (m.hop x v)
    to e =
        let c = cell_from V m V x v e in
        let hop = M.linked.hops x c.named c.alloc in
        let found = first_passes (m.hop x) V hop.0 hop.1 hop.2 in
        (c.named, subst (Contains V) (sym c.content) found.0, subst (λ u. IsTrue (m.hop x u)) (sym c.content) found.1)

    from : Contains V x × Contains V v × IsTrue (m.hop x v) → get (built V m) x ≡ Some v
    from (cx, cv, a) =
        let found = first_passes (m.hop x) V v cv a in
        cell_of V m V x cx (M.linked.row_15 x v cx cv a)
        ∙ ap Some (hops_agree V m M x (first (m.hop x) V) v cx found.0 cv found.1 a)

-- what a cell of the built heap is
pub is_hop : (V : List ℕ) (m : HeapStructure) → IsModelOver V m → (x v : ℕ) → get (built V m) x ≡ Some v
    → Contains V x × Contains V v × IsTrue (m.hop x v)
is_hop V m M x v = (contents_are_hops V m M x v).0

pub cell_at : (V : List ℕ) (m : HeapStructure) → IsModelOver V m → (x : ℕ) → Contains V x → IsTrue (m.alloc x)
    → Allocated (built V m) x
cell_at V m M x cx a = (first (m.hop x) V, cell_of V m V x cx a)

pub alloc_at : (V : List ℕ) (m : HeapStructure) (x : ℕ) → Allocated (built V m) x → IsTrue (m.alloc x)
alloc_at V m x (v, e) = (cell_from V m V x v e).alloc

pub succ_is_hop : (V : List ℕ) (m : HeapStructure) → IsModelOver V m → (x : ℕ) → Allocated (built V m) x
    → Contains V (succ (built V m) x) × IsTrue (m.hop x (succ (built V m) x))
succ_is_hop V m M x (v, e) =
    let next = sym (succ_at (built V m) x v e) in
    let hop = is_hop V m M x v e in
    (subst (Contains V) next hop.1, subst (λ u. IsTrue (m.hop x u)) next hop.2)

pub follows : (V : List ℕ) (m : HeapStructure) → IsModelOver V m → FollowsHops V m (succ (built V m))
follows V m M = record {
  named = λ x cx a. (succ_is_hop V m M x (cell_at V m M x cx a)).0;
  goes = λ x cx a. (succ_is_hop V m M x (cell_at V m M x cx a)).1;
  stays = λ x cx off. elim (allocated_or (built V m) x) [
    | inl a ↦ absurd (both_ways (m.alloc x) off (alloc_at V m x a))
    | inr none ↦ succ_stays (built V m) x none
  ];
}

pub null : (V : List ℕ) (m : HeapStructure) → IsModelOver V m → get (built V m) 0 ≡ None
null V m M = elim (allocated_or (built V m) 0) [ inl a ↦ absurd (M.linked.null (alloc_at V m 0 a)) | inr none ↦ none ]

pub owned : (V : List ℕ) (m : HeapStructure) → IsModelOver V m → Owned V (built V m)
owned V m M = record {
  points = λ x v e. inl (is_hop V m M x v e).1;
  one_predecessor = λ c p q un e _. absurd (un (is_hop V m M p c e).1);
  reached = λ c a un. absurd (un (is_hop V m M c a.0 a.1).0);
}

-- where the content is named the hop goes there
pub hop_at_once : (V : List ℕ) (h : Heap) (x v k : ℕ) → Contains V (succ h x) → walk h (suc k) x ≡ v
    → ((i : ℕ) → i < k → IsUnnamed V (walk h (suc i) x)) → succ h x ≡ v
hop_at_once V h x v zero named arrives un = arrives
hop_at_once V h x v (suc k) named arrives un = absurd (un 0 (omega arith) named)

hop : (V : List ℕ) (m : HeapStructure) → IsModelOver V m → (x v : ℕ) → Contains V x → Contains V v
    → Hop V (built V m) x v ↔ IsTrue (m.hop x v)
hop V m M x v cx cv = (to, from)
  where
    to : Hop V (built V m) x v → IsTrue (m.hop x v)
    to t =
        let next = succ_is_hop V m M x t.allocated in
        subst (λ u. IsTrue (m.hop x u)) (hop_at_once V (built V m) x v t.between next.0 t.arrives t.unnamed) next.1

    from : IsTrue (m.hop x v) → Hop V (built V m) x v
    from a =
        let e : get (built V m) x ≡ Some v = (contents_are_hops V m M x v).1 (cx, cv, a) in
        subst (Hop V (built V m) x) (succ_at (built V m) x v e)
        ((hop_rows V (built V m)).content x (v, e) (succ_is_hop V m M x (v, e)).0)

pub models_are_built : ModelsAreBuilt
models_are_built V m M = record {
  null = null V m M;
  owned = owned V m M;
  represents = record {
    alloc = λ x cx. (cell_at V m M x cx, alloc_at V m x);
    hop = λ x v cx cv. let both = hop V m M x v cx cv in (both.1, both.0);
    between =
        λ x y z cx cy cz. (
          walk_between V m (succ (built V m)) M (follows V m M) x y z cx cy cz,
          between_walk V m (succ (built V m)) M (follows V m M) x y z cx cy cz,
        );
  };
}

-- walks don't leave V
pub succ_named : (V : List ℕ) (m : HeapStructure) → IsModelOver V m → (x : ℕ) → Contains V x
    → Contains V (succ (built V m) x)
succ_named V m M x cx = elim (allocated_or (built V m) x) [
  | inl a ↦ (succ_is_hop V m M x a).0
  | inr none ↦ subst (Contains V) (sym (succ_stays (built V m) x none)) cx
]

mutual
  pub has_names : (f : Assertion) (s : Store) (V : List ℕ) (m : HeapStructure) → IsModelOver V m → IsNamed f s V
      → HasNames f s (built V m) V
  has_names empty s V m M n = tt
  has_names (comparison l e r) s V m M n = n
  has_names (points_to at to) s V m M n = (n.0, succ_named V m M (s at.name) n.0, n.1)
  has_names (cell at) s V m M n = (n, succ_named V m M (s at.name) n)
  has_names (segment x y) s V m M n = n
  has_names (star fs) s V m M n = have_names fs s V m M n
  has_names (cases t f g) s V m M n = (has_names f s V m M n.0, has_names g s V m M n.1)

  have_names : (fs : Assertions) (s : Store) (V : List ℕ) (m : HeapStructure) → IsModelOver V m → AreNamed fs s V
      → HaveNames fs s (built V m) V
  have_names no_assertions s V m M n = tt
  have_names (assertion_first f fs) s V m M n = (has_names f s V m M n.0, have_names fs s V m M n.1)

pub built_is_read : BuiltIsRead
built_is_read V m s f M n = reading V (built V m) s f (null V m M) (owned V m M) (has_names f s V m M n)
