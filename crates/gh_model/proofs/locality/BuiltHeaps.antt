-- The heaps that are built depict the versions of a model.
use Rattle.std.specs.Prelude.{◌≡◌, ◌↔◌, ℕ, ◌<◌, List, length, slice_get, Some, Bool, true, IsTrue, Decides}
use Rattle.std.proofs.Common.{sym, subst}
use Rattle.gh_base.specs.declared.atom.Atom.TheVariants.{Btwn, Hop as HopAtom, Alloc}
use Rattle.gh_base.specs.Meaning.{Interpretation}
use Rattle.gh_base.specs.Atoms.{term}
use Rattle.gh_assert.specs.Heaps.{Heap}
use Rattle.gh_assert.specs.Hops.{Hop}
use Rattle.gh_assert.specs.Walks.{Allocated, Between}
use Rattle.gh_symb.specs.Symbolic.{symbolic_of}
use Rattle.gh_model.specs.BuiltHeaps.{built}
use Rattle.gh_model.specs.BuiltTraces.{IsVersionBuilt, VersionsAreBuilt}
use Rattle.gh_model.specs.Classes.{classes}
use Rattle.gh_model.specs.Depictions.{IsHeapDepicted}
use Rattle.gh_model.specs.Homomorphisms.{IsHomomorphism}
use Rattle.gh_model.specs.Representations.{Represents}
use Rattle.gh_model.specs.Structures.{HeapStructure}
use Rattle.gh_model.specs.Versions.{equal_in, version_of}
use Rattle.gh_model.proofs.heaps.BuiltHeap.{models_are_built, contents_are_hops}
use Rattle.gh_model.proofs.locality.BuiltVersions.{ground}
use Rattle.gh_model.proofs.soundness.Interpretation.{value_at, value_of, within_list}
use Rattle.gh_model.proofs.terms.Denotation.{listed}

-- a test that agrees with one that decides
along : (a b : Bool) (P : Type 0) → (a ≡ true) ↔ (b ≡ true) → Decides b P → Decides a P
along a b P same d = (λ u. d.0 (same.0 u), λ u. same.1 (d.1 u))

-- what maps onto a structure that represents a heap depicts it
maps_depict : (V : List ℕ) (m : Interpretation) (i : ℕ) (h : Heap) (M : HeapStructure)
    → IsHomomorphism m i (length V) (value_at V) V M → Represents V h M → IsHeapDepicted V m i h
maps_depict V m i h M S R =
    let within : (t x : ℕ) → slice_get V t ≡ Some x → t < length V = within_list V in
    record {
      alloc = λ t x e.
          let p : Bool = m.table (Alloc i (term t)) in
          along p (M.alloc x) (Allocated h x)
          (subst (λ (u : ℕ). IsTrue p ↔ IsTrue (M.alloc u)) (value_of V t x e) (S.alloc t (within t x e)))
          (R.alloc x (listed V t x e));
      between = λ t u w x y z e f g.
          let p : Bool = m.table (Btwn i (term t) (term u) (term w)) in
          along p (M.between x y z) (Between h x y z)
          (subst (λ (k : ℕ). IsTrue p ↔ IsTrue (M.between x y k)) (value_of V w z g)
          (subst (λ (k : ℕ). IsTrue p ↔ IsTrue (M.between x k (value_at V w))) (value_of V u y f)
          (subst (λ (k : ℕ). IsTrue p ↔ IsTrue (M.between k (value_at V u) (value_at V w))) (value_of V t x e)
          (S.between t u w (within t x e) (within u y f) (within w z g)))))
          (R.between x y z (listed V t x e) (listed V u y f) (listed V w z g));
      hop = λ t u x v e f.
          let p : Bool = m.table (HopAtom i (term t) (term u)) in
          along p (M.hop x v) (Hop V h x v)
          (subst (λ (k : ℕ). IsTrue p ↔ IsTrue (M.hop x k)) (value_of V u v f)
          (subst (λ (k : ℕ). IsTrue p ↔ IsTrue (M.hop k (value_at V u))) (value_of V t x e)
          (S.hop t u (within t x e) (within u v f))))
          (R.hop x v (listed V t x e) (listed V u v f));
    }

pub versions_are_built : VersionsAreBuilt
versions_are_built P proc c m i is below =
    let n = length (symbolic_of P proc c).terms in
    let V = classes (equal_in m) n in
    let G = ground P proc c m is in
    let M = version_of m i in
    let model = G.model i below in
    let B = models_are_built V M model in
    let map : IsHomomorphism m i (length V) (value_at V) V M =
    subst (λ k. IsHomomorphism m i k (value_at V) V M) (sym G.count) (G.homomorphism i below) in
    let here : IsVersionBuilt V m i (built V M) = record {
      proper = B.null;
      named = λ x v e. let hop = (contents_are_hops V M model x v).0 e in (hop.0, hop.1);
      depicted = maps_depict V m i (built V M) M map B.represents;
    } in
    subst (IsVersionBuilt V m i) (sym (G.heap i below)) here
