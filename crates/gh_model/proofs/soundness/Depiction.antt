-- The model that a counterexample gives depicts its heaps.
use Rattle.std.specs.Prelude.{◌≡◌, ℕ, List, [], ◌∷◌, slice_get, Some, Decides}
use Rattle.std.proofs.Common.{refl, sym, ◌∙◌, ap, subst}
use Rattle.gh_base.specs.declared.atom.Atom.TheVariants.{Btwn, Hop as HopAtom, Alloc}
use Rattle.gh_base.specs.Meaning.{Interpretation}
use Rattle.gh_base.specs.Atoms.{term}
use Rattle.gh_ast.specs.Plain.{Procedure, Program}
use Rattle.gh_assert.specs.Heaps.{Heap}
use Rattle.gh_assert.specs.Walks.{Allocated, Between}
use Rattle.gh_assert.specs.Hops.{Hop}
use Rattle.gh_path.specs.Graphs as path
use Rattle.gh_grass.specs.Truth.{IsOneBefore}
use Rattle.gh_trace.specs.Traces.{State, IsTrace}
use Rattle.gh_model.specs.Structures.{HeapStructure}
use Rattle.gh_model.specs.Representations.{Represents}
use Rattle.gh_model.specs.TermValues.{path_version}
use Rattle.gh_model.specs.Depictions.{IsHeapDepicted, AreHeapsDepicted, TracesAreDepicted}
use Rattle.gh_model.proofs.terms.Denotation.{listed}
use Rattle.gh_model.proofs.soundness.TraceValues.{heap_in, front_heap, HeapsAre, heaps_are}
use Rattle.gh_model.proofs.soundness.Interpretation.{value_at, value_of, reflection}
use Rattle.gh_model.proofs.soundness.Abstraction.{reflected, versions_known}
use Rattle.gh_model.proofs.soundness.ClauseModels.{model_from}
use Rattle.gh_model.proofs.soundness.SuccessorVersions.{kinds_valued}

heap_depicted : (V : List ℕ) (M : ℕ → HeapStructure) (n : Interpretation) (i : ℕ) (h : Heap)
    → IsOneBefore 0 (reflection V M) n → Represents V h (M i) → IsHeapDepicted V n i h
heap_depicted V M n i h B T = record {
  alloc = λ t x e.
      let same : n.table (Alloc i (term t)) ≡ (M i).alloc x =
      B.table (Alloc i (term t)) tt ∙ ap (M i).alloc (value_of V t x e) in
      subst (λ b. Decides b (Allocated h x)) (sym same) (T.alloc x (listed V t x e));
  between = λ t u w x y z e f g.
      let same : n.table (Btwn i (term t) (term u) (term w)) ≡ (M i).between x y z =
      B.table (Btwn i (term t) (term u) (term w)) tt
      ∙ ap (λ k. (M i).between k (value_at V u) (value_at V w)) (value_of V t x e)
      ∙ ap (λ k. (M i).between x k (value_at V w)) (value_of V u y f) ∙ ap ((M i).between x y) (value_of V w z g) in
      subst (λ b. Decides b (Between h x y z)) (sym same)
      (T.between x y z (listed V t x e) (listed V u y f) (listed V w z g));
  hop = λ t u x v e f.
      let same : n.table (HopAtom i (term t) (term u)) ≡ (M i).hop x v =
      B.table (HopAtom i (term t) (term u)) tt ∙ ap (λ k. (M i).hop k (value_at V u)) (value_of V t x e)
      ∙ ap ((M i).hop x) (value_of V u v f) in
      subst (λ b. Decides b (Hop V h x v)) (sym same) (T.hop x v (listed V t x e) (listed V u v f));
}

heaps_depicted : (P : Program) (home : Procedure) (V : List ℕ) (H : ℕ → Heap) (M : ℕ → HeapStructure)
    (n : Interpretation) → IsOneBefore 0 (reflection V M) n → ((i : ℕ) → Represents V (H i) (M i))
    → (ps : List path.PathStep) (i : ℕ) (x : State) (ys : List State) → IsTrace P home x ps ys → HeapsAre H ps x ys i
    → AreHeapsDepicted V n ps i x ys
heaps_depicted P home V H M n B T [] i x ys trace A =
    heap_depicted V M n i x.heap B (subst (λ h. Represents V h (M i)) A (T i))
heaps_depicted P home V H M n B T (proc ∷ ps) i x [] trace A = absurd trace
heaps_depicted P home V H M n B T (proc ∷ ps) i x (y ∷ ys) trace A = (
  heap_depicted V M n i x.heap B (subst (λ h. Represents V h (M i)) A.0 (T i)),
  heaps_depicted P home V H M n B T ps (path_version proc i) y ys trace.1 A.1,
)

pub traces_are_depicted : TracesAreDepicted
traces_are_depicted P proc c x ys V typed is of C values =
    let H = heap_in c.way.steps x ys 0 in
    let known = versions_known P proc c x ys V typed is of C values (kinds_valued P proc c x ys V typed of C values) in
    let M : ℕ → HeapStructure = known.0 in
    let heaps : HeapsAre H c.way.steps x ys 0 = heaps_are P proc H c.way.steps x ys 0 C.leads (λ j l. refl) in
    let made' =
    model_from P proc c (reflection V M)
    (reflected P proc c x ys V H M typed C values known.1 (front_heap c.way.steps x ys 0) heaps) in
    let n : Interpretation = made'.0 in
    let class_of : (t v : ℕ) → slice_get V t ≡ Some v → n.class t ≡ v =
    λ t v e. ap (λ (g : ℕ → ℕ). g t) made'.1.class ∙ value_of V t v e in (
      n,
      made'.2,
      record {
        classes = λ t u v w e f. (
          λ same. sym (class_of t v e) ∙ same ∙ class_of u w f,
          λ same. class_of t v e ∙ same ∙ sym (class_of u w f),
        );
        along = heaps_depicted P proc V H M n made'.1 known.1.represents c.way.steps 0 x ys C.leads heaps;
      },
    )
