-- A store and a heap in which the question fails give a model that depicts the heap.
use Rattle.std.specs.Prelude.{◌≡◌, ℕ, List, [], ◌∷◌, length, slice_get, Some, Bool, true, false, not, IsTrue, Decides}
use Rattle.std.proofs.Common.{refl, sym, ◌∙◌, ap, subst}
use Rattle.std.proofs.lemmas.List.Elements.{All-nil, All-cons, All-append, All-weaker}
use Rattle.gh_base.specs.declared.atom.Atom.TheVariants.{Btwn, Hop, Alloc}
use Rattle.gh_base.specs.Meaning.{Interpretation, IsCongruence}
use Rattle.gh_base.specs.Atoms.{term}
use Rattle.gh_inst.specs.Instances.{instances}
use Rattle.gh_inst.specs.Violations.{IsInstanceTrue, AreInstancesTrue}
use Rattle.gh_assert.specs.Heaps.{Heap}
use Rattle.gh_assert.specs.Walks.{succ, Allocated, Between}
use Rattle.gh_path.specs.Terms.{Kind, Bindings, no_terms}
use Rattle.gh_grass.specs.Claims.{negation_of, GroundFormula}
use Rattle.gh_grass.specs.Truth.{truth, AreTrue, HasEarlier, IsOneBefore}
use Rattle.gh_grass.proofs.LawLemmas.{formulas_give_clauses}
use Rattle.gh_symb.specs.Symbolic.{Under}
use Rattle.gh_symb.specs.Formulas.{version_formulas}
use Rattle.gh_model.specs.Structures.{HeapStructure, IsModelOver}
use Rattle.gh_model.specs.BuiltHeaps.{built}
use Rattle.gh_model.specs.Laws.{IsBuilt}
use Rattle.gh_model.proofs.terms.Extension.{stays}
use Rattle.gh_model.proofs.terms.Denotation.{listed}
use Rattle.gh_model.proofs.soundness.WalkValues.{IsKindValuation, IsValuation, sound_of}
use Rattle.gh_model.proofs.soundness.Versions.{AreVersions}
use Rattle.gh_model.proofs.heaps.BuiltHeap.{models_are_built}
use Rattle.gh_model.proofs.reading.AxiomInstances.{instances_hold}
use Rattle.gh_model.proofs.soundness.Abstraction.{version_true}
use Rattle.gh_model.proofs.soundness.ClauseModels.{Plain, plain_append, all_plain, plain_whole, plain_version}
use Rattle.gh_model.proofs.soundness.ClauseModels.{congruence_stays, instance_stays}
use Rattle.gh_model.proofs.soundness.Interpretation.{value_at, value_of, reflection, reflection_congruence}
use Rattle.gh_model.proofs.soundness.Interpretation.{reflection_homomorphism}
use Rattle.gh_ast.specs.Questions.{Claim, leaf, denial, every, either, Claims, no_claims, claim_first, Question}
use Rattle.gh_entail.specs.Meaning.{Holds}
use Rattle.gh_entail.specs.Terms.{claim_walked, question_walked}
use Rattle.gh_entail.specs.Formulas.{claim_formula, claim_formulas, question_formulas, question_problem}
use Rattle.gh_entail.specs.Alike.{LooksLike}
use Rattle.gh_entail.specs.Hops.{Heads, Depicts}
use Rattle.gh_entail.specs.Laws.{IsModelOf, IsDepicted, FailuresAreDepicted}
use Rattle.gh_entail.proofs.Depictions.{depictions_exist, depictions_are_models, depictions_look_alike}
use Rattle.gh_entail.proofs.Walking.{claim_grows, question_grows}
use Rattle.gh_entail.proofs.Moving.{Looks, moved}
use Rattle.gh_entail.proofs.Valuing.{question_valued}
use Rattle.gh_entail.proofs.Saying.{Says, claim_is}

-- the formulas define nothing
mutual
  plain_claim : (ks : List Kind) (b : Bindings) (c : Claim) → HasEarlier 0 (claim_formula ks b c)
  plain_claim ks b (leaf f) = let u : Under = record { assertion = f; binding = b; version = 0 } in plain_whole ks u
  plain_claim ks b (denial c) = plain_claim ks b c
  plain_claim ks b (every cs) = plain_claims ks b cs
  plain_claim ks b (either cs) = plain_claims ks b cs

  plain_claims : (ks : List Kind) (b : Bindings) (cs : Claims) → Plain (claim_formulas ks b cs)
  plain_claims ks b no_claims = tt
  plain_claims ks b (claim_first c cs) = (plain_claim ks b c, plain_claims ks b cs)

plain_question : (q : Question) → Plain (question_formulas q)
plain_question q =
    let t = question_walked q in
    plain_append (version_formulas t.kinds 0)
    (claim_formula t.kinds t.bindings q.left ∷ negation_of (claim_formula t.kinds t.bindings q.right) ∷ [])
    (plain_version t.kinds 0)
    (plain_claim t.kinds t.bindings q.left, (plain_claim t.kinds t.bindings q.right, tt))

-- the values of terms in a heap are those in one that looks like it
alike_valued : (V : List ℕ) (h k : Heap) (ks : List Kind) → LooksLike V h k → IsKindValuation (λ i. h) V ks
    → IsKindValuation (λ i. k) V ks
alike_valued V h k ks L S = record {
  count = S.count;
  null = S.null;
  follows = λ t i u e.
      let f = S.follows t i u e in
      (f.0, f.1, f.2 ∙ ap Some (sym (L.follows f.0 (listed V u f.0 f.1) (listed V t (succ h f.0) f.2))));
}

one_value : (v w : ℕ) → Some v ≡ Some w → v ≡ w
one_value v w e = cc

off_test : (a : Bool) → (IsTrue a → ⊥) → not a ≡ true
off_test true n = absurd (n refl)
off_test false n = refl

-- definitions can be given values that make all clauses true
model_from : (q : Question) (m : Interpretation) → IsCongruence (question_problem q).sizes m
    → AreInstancesTrue (question_problem q).sizes m → AreTrue m (question_formulas q)
    → (n : Interpretation) × IsOneBefore 0 m n × IsModelOf q n
model_from q m C I A =
    let made' =
    formulas_give_clauses m (question_formulas q) 0 (all_plain (question_formulas q) (plain_question q)) A in
    let sizes = (question_problem q).sizes in (
      made'.0,
      made'.1,
      record {
        congruence = congruence_stays sizes m made'.0 made'.1 C;
        instances =
            All-weaker (IsInstanceTrue m) (IsInstanceTrue made'.0) (instance_stays m made'.0 made'.1)
            (instances sizes.terms sizes.versions) I;
        clauses = made'.2;
      },
    )

depicted : (V : List ℕ) (h : Heap) (M : HeapStructure) (n : Interpretation) → IsOneBefore 0 (reflection V (λ i. M)) n
    → Depicts V h M → IsDepicted V h n
depicted V h M n B T = record {
  classes = λ t u v w e f. (
    λ same. sym (class_of t v e) ∙ same ∙ class_of u w f,
    λ same. class_of t v e ∙ same ∙ sym (class_of u w f),
  );
  alloc = λ t x e.
      let same : n.table (Alloc 0 (term t)) ≡ M.alloc x =
      B.table (Alloc 0 (term t)) tt ∙ ap M.alloc (value_of V t x e) in
      subst (λ b. Decides b (Allocated h x)) (sym same) (T.alloc x (listed V t x e));
  between = λ t u w x y z e f g.
      let same : n.table (Btwn 0 (term t) (term u) (term w)) ≡ M.between x y z =
      B.table (Btwn 0 (term t) (term u) (term w)) tt
      ∙ ap (λ k. M.between k (value_at V u) (value_at V w)) (value_of V t x e)
      ∙ ap (λ k. M.between x k (value_at V w)) (value_of V u y f) ∙ ap (M.between x y) (value_of V w z g) in
      subst (λ b. Decides b (Between h x y z)) (sym same)
      (T.between x y z (listed V t x e) (listed V u y f) (listed V w z g));
  hop = λ t u x v e f.
      let same : n.table (Hop 0 (term t) (term u)) ≡ M.hop x v =
      B.table (Hop 0 (term t) (term u)) tt ∙ ap (λ k. M.hop k (value_at V u)) (value_of V t x e)
      ∙ ap (M.hop x) (value_of V u v f) in
      subst (λ b. Decides b (Heads V h x v)) (sym same) (T.heads x v (listed V t x e) (listed V u v f));
}
  where
    class_of : (t v : ℕ) → slice_get V t ≡ Some v → n.class t ≡ v
    class_of t v e = ap (λ (g : ℕ → ℕ). g t) B.class ∙ value_of V t v e

pub failures_are_depicted : FailuresAreDepicted
failures_are_depicted q st h null against =
    let t = question_walked q in
    let K : List Kind = t.kinds in
    let n = length K in
    let Q = question_valued q h st null in
    let V : List ℕ = Q.values in
    let drawn = depictions_exist V h null in
    let M : HeapStructure = drawn.0 in
    let k : Heap = built V M in
    let c0 = listed V 0 0 Q.valued.kinds.null in
    let model : IsModelOver V M = depictions_are_models V h M null c0 drawn.1 in
    let B : IsBuilt V M = models_are_built V M model in
    let like : LooksLike V h k = depictions_look_alike V h M null c0 drawn.1 in
    let seen : Looks K V st h k t =
    record { like = like; null = B.null; owned = B.owned; sound = sound_of (λ i. h) V st h t refl Q.valued } in
    let right_grows = claim_grows q.right true (claim_walked false q.left no_terms) in
    let left : Holds q.left st k = moved K V st h k t seen q.left false no_terms right_grows Q.left against.left in
    let right : Holds q.right st k → ⊥ =
    λ r. against.right (moved K V st h k t seen q.right true (claim_walked false q.left no_terms) (stays t) Q.right
    r) in
    let kinds : IsKindValuation (λ i. k) V K = alike_valued V h k K like Q.valued.kinds in
    let valued : IsValuation (λ i. k) V st t = record { kinds = kinds; gives = Q.valued.gives } in
    let m : Interpretation = reflection V (λ i. M) in
    let S : Says m K V M st t = record {
      count = kinds.count;
      model = model;
      homomorphism = reflection_homomorphism V (λ i. M) 0 n kinds.count kinds.null;
      version = (question_grows q).version;
      sound = sound_of (λ i. k) V st k t refl valued;
    } in
    let A : AreVersions V K (λ i. k) (λ i. M) =
    record {
      kinds = kinds;
      proper = λ i. B.null;
      owned = λ i. B.owned;
      represents = λ i. B.represents;
      models = λ i. model;
    } in
    let T : GroundFormula → Type 0 = λ g. truth m g ≡ true in
    let F = claim_formula K t.bindings q.left in
    let G = claim_formula K t.bindings q.right in
    let is_left : T F = (claim_is m K V M st t S q.left false no_terms right_grows).1 left in
    let is_right : T (negation_of G) =
    off_test (truth m G) (λ e. right
    ((claim_is m K V M st t S q.right true (claim_walked false q.left no_terms) (stays t)).0 e)) in
    let all : AreTrue m (question_formulas q) =
    All-append T (version_formulas K 0) (F ∷ negation_of G ∷ []) (version_true V K (λ i. k) (λ i. M) A 0)
    (All-cons T F (negation_of G ∷ []) is_left (All-cons T (negation_of G) [] is_right (All-nil T))) in
    let sizes = (question_problem q).sizes in
    let made' =
    model_from q m (reflection_congruence sizes V (λ i. M))
    (instances_hold sizes m (value_at V) V (λ i. M)
    (λ i l. (model, reflection_homomorphism V (λ i. M) i n kinds.count kinds.null))) all in (
      V,
      record {
        count = Q.valued.kinds.count;
        null = Q.valued.kinds.null;
        follows = λ j i u v e a. let f = Q.valued.kinds.follows j i u e in
            f.2 ∙ ap (λ w. Some (succ h w)) (one_value f.0 v (sym f.1 ∙ a));
        bound = Q.valued.gives;
      },
      (made'.0, made'.2, depicted V h M made'.0 made'.1 drawn.1),
    )
