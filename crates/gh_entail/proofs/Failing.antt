-- A model gives a store and a heap in which the question fails.
use Rattle.std.specs.Prelude.{◌≡◌, ℕ, ◌+◌, ◌<◌, List, [], ◌∷◌, length, slice_get, Some, true, false}
use Rattle.std.proofs.Common.{refl, sym, ◌∙◌, ap, subst, arith}
use Rattle.std.proofs.lemmas.List.{length-map}
use Rattle.std.proofs.lemmas.List.Elements.{All-head, All-tail}
use Rattle.gh_base.specs.Atoms.{term}
use Rattle.gh_assert.specs.Meaning.{Store}
use Rattle.gh_path.specs.Terms.{Kind, null, next, no_terms}
use Rattle.gh_grass.specs.Claims.{negation_of}
use Rattle.gh_grass.specs.Truth.{truth, AreTrue}
use Rattle.gh_grass.proofs.LawLemmas.{clauses_mean_formulas}
use Rattle.gh_symb.specs.Formulas.{allocated, each, leads, successors_from, version_formulas}
use Rattle.gh_model.specs.Structures.{HeapStructure}
use Rattle.gh_model.specs.BuiltHeaps.{built}
use Rattle.gh_model.specs.Classes.{numbers, class_of, classes, HasClasses}
use Rattle.gh_model.specs.Versions.{equal_in, version_of}
use Rattle.gh_model.specs.Homomorphisms.{IsHomomorphism}
use Rattle.gh_model.proofs.terms.Extension.{stays}
use Rattle.gh_model.proofs.terms.Bounds.{place_below}
use Rattle.gh_model.proofs.reading.AxiomRows.{versions_are_models}
use Rattle.gh_model.proofs.soundness.Interpretation.{value_at}
use Rattle.gh_model.proofs.locality.BuiltVersions.{T, all_front, all_back, no_more, has_hops, count_numbers, class_at}
use Rattle.gh_model.proofs.locality.BuiltVersions.{classes_homomorphism, follows_from_claims, heap_is, value_is}
use Rattle.gh_entail.specs.Meaning.{Holds}
use Rattle.gh_entail.specs.Terms.{claim_walked, question_walked}
use Rattle.gh_entail.specs.Formulas.{claim_formula, question_formulas, question_problem}
use Rattle.gh_entail.specs.Laws.{store_from, heap_from, ModelsFail}
use Rattle.gh_entail.proofs.Walking.{claim_grows, question_grows, question_bounded}
use Rattle.gh_entail.proofs.Saying.{Says, claim_is}

pub models_fail : ModelsFail
models_fail q m I =
    let t = question_walked q in
    let K : List Kind = t.kinds in
    let n = length K in
    let E = equal_in m in
    let V : List ℕ = classes E n in
    let M : HeapStructure = version_of m 0 in
    let st : Store = store_from q m in
    let F = claim_formula K t.bindings q.left in
    let G = claim_formula K t.bindings q.right in
    let said : AreTrue m (question_formulas q) = clauses_mean_formulas m (question_formulas q) 0 I.clauses in
    let version : AreTrue m (version_formulas K 0) = all_front m (version_formulas K 0) (F ∷ negation_of G ∷ []) said in
    let claims : AreTrue m (F ∷ negation_of G ∷ []) = all_back m (version_formulas K 0) (F ∷ negation_of G ∷ []) said in
    let first : slice_get K 0 ≡ Some null = (question_grows q).kinds 0 null refl in
    let some : 0 < n = place_below K 0 null first in
    let C : HasClasses E n M =
    versions_are_models (question_problem q).sizes m 0 (omega arith) some I.congruence I.instances
    (has_hops m K 0 version) in
    let count : length V ≡ n = length-map (numbers 0 n) (class_of E n) ∙ count_numbers 0 n in
    let listed' : (u : ℕ) → u < n → slice_get V u ≡ Some (class_of E n u) =
    λ u l. let zero' : 0 + u ≡ u = omega arith in
    class_at (class_of E n) 0 n u l ∙ ap (λ w. Some (class_of E n w)) zero' in
    let null' : slice_get V 0 ≡ Some 0 = listed' 0 some ∙ ap Some C.null in
    let S : IsHomomorphism m 0 n (value_at V) V M = classes_homomorphism m 0 n V some refl count null' listed' C in
    let next' =
    follows_from_claims m K V 0 count C.model S
    (all_back m (negation_of (allocated 0 (term 0)) ∷ each n (leads n 0)) (successors_from 0 0 K) version) in
    let zero' : t.version ≡ 0 = (question_grows q).version in
    let says : Says m K V M st t = record {
      count = count;
      model = C.model;
      homomorphism = S;
      version = zero';
      sound = record {
        null = null';
        kinds = λ i k e. e;
        next = λ j u v e. next' j u v (e ∙ ap (λ i. Some (next i u)) zero');
        bound =
            λ y u e. listed' u ((question_bounded q).below y u e)
            ∙ ap Some (sym (value_is (class_of E n) t.bindings y u e));
      };
    } in
    let same : heap_from q m ≡ built V M = heap_is m n 0 C in
    let left : Holds q.left st (built V M) =
    (claim_is m K V M st t says q.left false no_terms
    (claim_grows q.right true (claim_walked false q.left no_terms))).0
    (All-head (T m) F (negation_of G ∷ []) claims) in
    let right : Holds q.right st (built V M) → ⊥ =
    λ r. no_more (truth m G) (All-head (T m) (negation_of G) [] (All-tail (T m) F (negation_of G ∷ []) claims))
    ((claim_is m K V M st t says q.right true (claim_walked false q.left no_terms) (stays t)).1 r) in
    record {
      left = subst (λ h. Holds q.left st h) (sym same) left;
      right = λ r. right (subst (λ h. Holds q.right st h) same r);
    }
