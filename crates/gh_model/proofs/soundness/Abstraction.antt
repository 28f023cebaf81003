-- From counterexamples to interpretations.
use Rattle.std.specs.Prelude.{◌≡◌, ℕ, zero, suc, ◌+◌, ◌≤◌, ◌<◌, List, [], ◌∷◌, length, map, slice_get, Some, None, Bool}
use Rattle.std.specs.Prelude.{true, false, not, cond, ◌==◌, ◌||◌, IsTrue, All, Contains, ◌-◌, ◌++◌}
use Rattle.std.specs.List.{range_with_len}
use Rattle.std.specs.FinMap.{get}
use Rattle.std.proofs.Common.{refl, sym, ◌∙◌, ap, subst, inl, inr, arith}
use Rattle.std.proofs.lemmas.Bool.{cases_eq, cases_Bool, eqb-true, eq-eqb}
use Rattle.std.proofs.lemmas.List.Elements.{All-nil, All-cons, All-append, All-map, All-weaker}
use Rattle.gh_base.specs.declared.atom.Term.{Term}
use Rattle.gh_base.specs.Meaning.{Interpretation}
use Rattle.gh_base.specs.Atoms.{term, terms_below}
use Rattle.gh_ast.specs.Plain.{Procedure, Program}
use Rattle.gh_ast.proofs.Lists.{member_first, member_later, member_cases, only_member}
use Rattle.gh_ast.specs.Rules.{IsTyped}
use Rattle.gh_assert.specs.Heaps.{Heap, IsProper}
use Rattle.gh_assert.specs.Walks.{succ}
use Rattle.gh_assert.specs.Ownership.{Owned}
use Rattle.gh_assert.proofs.Cells.{allocated_or, succ_stays}
use Rattle.gh_assert.proofs.Proper.{met_are_proper}
use Rattle.gh_inst.proofs.SearchLemmas.{all_joined, range_below}
use Rattle.gh_path.specs.Graphs as path
use Rattle.gh_path.specs.Conditions.{Condition, IsCondition, IsOf}
use Rattle.gh_path.specs.Terms.{Kind, null, value, next, no_terms, steps_walked, check_walked}
use Rattle.gh_grass.specs.Claims.{GroundFormula, negation_of, ground_formulas_of, one_of, equality}
use Rattle.gh_grass.specs.Truth.{truth, some_true, AreTrue}
use Rattle.gh_symb.specs.Symbolic.{begins, symbolic_of, term_steps, state_bindings}
use Rattle.gh_symb.specs.Formulas.{allocated, variables, successor, hops, leads, each, succeeds, successor_formulas}
use Rattle.gh_symb.specs.Formulas.{successors_from, version_formulas, steps_formulas, meets_whole, problem}
use Rattle.gh_symb.specs.Formulas.{versions_formulas, check_formulas}
use Rattle.gh_trace.specs.Traces.{State, IsTrace, last_state}
use Rattle.gh_trace.proofs.Proper.{step_proper}
use Rattle.gh_model.specs.Structures.{HeapStructure, IsModelOver}
use Rattle.gh_model.specs.Representations.{Represents}
use Rattle.gh_model.specs.Homomorphisms.{IsPreserved}
use Rattle.gh_model.specs.TermValues.{path_version, HaveValues, AreTermValues}
use Rattle.gh_trace.specs.Validity.{IsCounterexample}
use Rattle.gh_model.specs.Abstraction.{Satisfies, TracesSatisfy}
use Rattle.gh_model.proofs.terms.Extension.{Within, walked_grows}
use Rattle.gh_model.proofs.terms.Denotation.{Sound, listed, formula_named}
use Rattle.gh_model.proofs.heaps.Agreement.{assertions_agree}
use Rattle.gh_model.proofs.heaps.HeapAxioms.{heaps_are_models}
use Rattle.gh_model.proofs.heaps.Representation.{representations_exist}
use Rattle.gh_model.proofs.reading.Assertions.{equal_truth}
use Rattle.gh_model.proofs.reading.AxiomInstances.{instances_hold}
use Rattle.gh_model.proofs.ownership.Traces.{own_names, traces_are_owned, first_values, sound_from, own_term, here}
use Rattle.gh_model.proofs.ownership.Traces.{check_within, steps_within}
use Rattle.gh_model.proofs.soundness.TraceValues.{found, heap_in, front_heap, HeapsAre, heaps_are}
use Rattle.gh_model.proofs.soundness.CheckTruth.{check_true, last_values, off_test}
use Rattle.gh_model.proofs.soundness.Versions.{AreVersions}
use Rattle.gh_model.proofs.soundness.WalkValues.{IsKindValuation}
use Rattle.gh_model.proofs.soundness.StepTruth.{steps_true}
use Rattle.gh_model.proofs.soundness.Interpretation.{value_at, value_of, found_in, within_list, reflection}
use Rattle.gh_model.proofs.soundness.Interpretation.{reflection_congruence, reflection_homomorphism, hop_to_content}
use Rattle.gh_model.proofs.soundness.Interpretation.{walked_preserved}
use Rattle.gh_model.proofs.terms.Bounds.{check_version}

-- each version's heap is that of some state
heap_state : (ps : List path.PathStep) (x : State) (ys : List State) (i j : ℕ)
    → (z : State) × Contains (x ∷ ys) z × (heap_in ps x ys i j ≡ z.heap)
heap_state [] x ys i j = (x, member_first x ys, refl)
heap_state (p ∷ ps) x [] i j = (x, member_first x [], refl)
heap_state (p ∷ ps) x (y ∷ ys) i j = elim (cases_Bool (j == i)) [
  | inl yes' ↦ (x, member_first x (y ∷ ys), ap (λ b. cond b x.heap (heap_in ps y ys (path_version p i) j)) yes')
  | inr no' ↦
      let r = heap_state ps y ys (path_version p i) j in
      (r.0, member_later x r.0 (y ∷ ys) r.1, ap (λ b. cond b x.heap (heap_in ps y ys (path_version p i) j)) no' ∙ r.2)
]

all_proper : (P : Program) (home : Procedure) (ps : List path.PathStep) (x : State) (ys : List State)
    → IsTrace P home x ps ys → IsProper x.heap → (z : State) → Contains (x ∷ ys) z → IsProper z.heap
all_proper P home [] x [] T proper z there = subst (λ (u : State). IsProper u.heap) (sym (only_member x z there)) proper
all_proper P home [] x (y ∷ ys) T proper z there = absurd T
all_proper P home (proc ∷ ps) x [] T proper z there = absurd T
all_proper P home (proc ∷ ps) x (y ∷ ys) T proper z there = elim (member_cases x (y ∷ ys) z there) [
  | inl same ↦ subst (λ (u : State). IsProper u.heap) same proper
  | inr later ↦ all_proper P home ps y ys T.1 (step_proper P home proc x y T.0 proper) z later
]

first_true : (a b : Bool) → a ≡ true → (a || b) ≡ true
first_true a b e = ap (λ c. c || b) e

later_true : (a b : Bool) → b ≡ true → (a || b) ≡ true
later_true true b e = refl
later_true false b e = e

-- one of the claims for each term
some_range : (m : Interpretation) (P : Term → GroundFormula) (k n z : ℕ) → k ≤ z → z < k + n
    → truth m (P (term z)) ≡ true → some_true m (ground_formulas_of (map P (map term (range_with_len k n)))) ≡ true
some_range m P k zero z a b e = absurd (omega arith)
some_range m P k (suc n) z a b e = elim (cases_eq k z) [
  | inl same ↦ first_true (truth m (P (term k)))
      (some_true m (ground_formulas_of (map P (map term (range_with_len (k + 1) n)))))
      (ap (λ u. truth m (P (term u))) same ∙ e)
  | inr other ↦ later_true (truth m (P (term k)))
      (some_true m (ground_formulas_of (map P (map term (range_with_len (k + 1) n)))))
      (some_range m P (k + 1) n z (omega arith) (omega arith) e)
]

-- what holds where a test is true
under_test : (a b : Bool) → (a ≡ true → b ≡ true) → (not a || b) ≡ true
under_test true b f = f refl
under_test false b f = refl

unless_test : (a b : Bool) → (a ≡ false → b ≡ true) → (a || b) ≡ true
unless_test true b f = refl
unless_test false b f = f refl

one_last : (a : Bool) → a ≡ true → (a || false) ≡ true
one_last a e = ap (λ c. c || false) e

leads_true : (V : List ℕ) (K : List Kind) (H : ℕ → Heap) (M : ℕ → HeapStructure) → AreVersions V K H M → (i x : ℕ)
    → x < length K → truth (reflection V M) (leads (length K) i (term x)) ≡ true
leads_true V K H M A i x l =
    under_test ((M i).alloc (value_at V x))
    (some_true (reflection V M) (ground_formulas_of (each (length K) (hops i (term x))))) (λ a.
    let S = reflection_homomorphism V M i (length K) A.kinds.count A.kinds.null in
    let next' = (A.models i).linked.hops (value_at V x) (S.named x l) a in
    let t = found_in V next'.0 next'.1 in
    some_range (reflection V M) (hops i (term x)) 0 (length K) t.0 (omega arith)
    (omega (arith, within_list V t.0 next'.0 t.1, A.kinds.count))
    (ap ((M i).hop (value_at V x)) (value_of V t.0 next'.0 t.1) ∙ next'.2))

succeeds_true : (V : List ℕ) (K : List Kind) (H : ℕ → Heap) (M : ℕ → HeapStructure) → AreVersions V K H M → (i x t : ℕ)
    → slice_get K t ≡ Some (next i x) → AreTrue (reflection V M) (succeeds i x t)
succeeds_true V K H M A i x t e =
    let f = A.kinds.follows t i x e in
    let at : value_at V x ≡ f.0 = value_of V x f.0 f.1 in
    let to : value_at V t ≡ succ (H i) f.0 = value_of V t (succ (H i) f.0) f.2 in
    let named = listed V x f.0 f.1 in
    let m = reflection V M in
    let T : GroundFormula → Type 0 = λ g. truth m g ≡ true in
    let one : truth m (one_of (negation_of (allocated i (term x)) ∷ hops i (term x) (term t) ∷ [])) ≡ true =
    under_test ((M i).alloc (value_at V x)) ((M i).hop (value_at V x) (value_at V t) || false) (λ a.
    let hop =
    hop_to_content V (H i) (M i) (A.represents i) f.0 named (listed V t (succ (H i) f.0) f.2)
    (subst (λ u. IsTrue ((M i).alloc u)) at a) in
    one_last ((M i).hop (value_at V x) (value_at V t))
    (ap (λ u. (M i).hop u (value_at V t)) at ∙ ap ((M i).hop f.0) to ∙ hop)) in
    let two : truth m (one_of (allocated i (term x) ∷ equality (term x) (term t) ∷ [])) ≡ true =
    unless_test ((M i).alloc (value_at V x)) (truth m (equality (term x) (term t)) || false) (λ off.
    let out : get (H i) f.0 ≡ None = elim (allocated_or (H i) f.0) [
      | inl a ↦ let there : (M i).alloc f.0 ≡ true = ((A.represents i).alloc f.0 named).1 a in
          let not' : (M i).alloc f.0 ≡ false = ap (M i).alloc (sym at) ∙ off in absurd cc
      | inr none ↦ none
    ] in
    one_last (truth m (equality (term x) (term t)))
    (equal_truth m x t ∙ eq-eqb (value_at V x) (value_at V t) (at ∙ sym (succ_stays (H i) f.0 out) ∙ sym to))) in
    All-cons T (one_of (negation_of (allocated i (term x)) ∷ hops i (term x) (term t) ∷ []))
    (one_of (allocated i (term x) ∷ equality (term x) (term t) ∷ []) ∷ []) one
    (All-cons T (one_of (allocated i (term x) ∷ equality (term x) (term t) ∷ [])) [] two (All-nil T))

kind_true : (V : List ℕ) (K : List Kind) (H : ℕ → Heap) (M : ℕ → HeapStructure) → AreVersions V K H M
    → (i t : ℕ) (k : Kind) → slice_get K t ≡ Some k → AreTrue (reflection V M) (successor_formulas i t k)
kind_true V K H M A i t null e = All-nil (λ g. truth (reflection V M) g ≡ true)
kind_true V K H M A i t (value n) e = All-nil (λ g. truth (reflection V M) g ≡ true)
kind_true V K H M A i t (next j x) e = elim (cases_Bool (j == i)) [
  | inl yes' ↦ subst (λ b. AreTrue (reflection V M) (cond b (succeeds i x t) [])) (sym yes')
      (succeeds_true V K H M A i x t (e ∙ ap (λ u. Some (next u x)) (eqb-true j i yes')))
  | inr no' ↦ subst (λ b. AreTrue (reflection V M) (cond b (succeeds i x t) [])) (sym no')
      (All-nil (λ g. truth (reflection V M) g ≡ true))
]

successors_true : (V : List ℕ) (K : List Kind) (H : ℕ → Heap) (M : ℕ → HeapStructure) → AreVersions V K H M
    → (i t : ℕ) (ks : List Kind) → ((j : ℕ) (k : Kind) → slice_get ks j ≡ Some k → slice_get K (t + j) ≡ Some k)
    → AreTrue (reflection V M) (successors_from i t ks)
successors_true V K H M A i t [] F = All-nil (λ g. truth (reflection V M) g ≡ true)
successors_true V K H M A i t (k ∷ ks) F =
    let here' : t + 0 ≡ t = omega arith in
    All-append (λ g. truth (reflection V M) g ≡ true) (successor_formulas i t k) (successors_from i (t + 1) ks)
    (kind_true V K H M A i t k (ap (slice_get K) (sym here') ∙ F 0 k refl))
    (successors_true V K H M A i (t + 1) ks
    (λ j l e. let up : t + 1 + j ≡ t + suc j = omega arith in ap (slice_get K) up ∙ F (suc j) l e))

pub version_true : (V : List ℕ) (K : List Kind) (H : ℕ → Heap) (M : ℕ → HeapStructure) → AreVersions V K H M → (i : ℕ)
    → AreTrue (reflection V M) (version_formulas K i)
version_true V K H M A i =
    let m = reflection V M in
    let T : GroundFormula → Type 0 = λ g. truth m g ≡ true in
    let n = length K in
    let none : truth m (negation_of (allocated i (term 0))) ≡ true =
    off_test ((M i).alloc (value_at V 0))
    (λ a. (A.models i).linked.null (subst (λ u. IsTrue ((M i).alloc u)) (value_of V 0 0 A.kinds.null) a)) in
    let each_leads : All T (each n (leads n i)) =
    All-map T (leads n i) (terms_below n)
    (All-map (λ z. T (leads n i z)) term (range_with_len 0 n)
    (All-weaker (λ k. k < n) (λ k. T (leads n i (term k))) (λ k l. leads_true V K H M A i k l)
    (range_with_len 0 n) (range_below 0 n n (omega arith)))) in
    All-append T (negation_of (allocated i (term 0)) ∷ each n (leads n i)) (successors_from i 0 K)
    (All-cons T (negation_of (allocated i (term 0))) (each n (leads n i)) none each_leads)
    (successors_true V K H M A i 0 K (λ j k e. let same : 0 + j ≡ j = omega arith in ap (slice_get K) same ∙ e))

one_less : (a b : ℕ) → a ≡ b → a + 1 - 1 ≡ b
one_less a b e = omega arith

pub reflected : (P : Program) (proc : Procedure) (c : Condition) (x : State) (ys : List State) (V : List ℕ)
    (H : ℕ → Heap) (M : ℕ → HeapStructure) → IsTyped P → IsCounterexample P proc c x ys → AreTermValues P proc c x ys V
    → AreVersions V (symbolic_of P proc c).terms H M → H 0 ≡ x.heap → HeapsAre H c.way.steps x ys 0
    → Satisfies P proc c (reflection V M)
reflected P proc c x ys V H M typed C values A front heaps =
    let D = symbolic_of P proc c in
    let K = D.terms in
    let n = length K in
    let m = reflection V M in
    let T : GroundFormula → Type 0 = λ g. truth m g ≡ true in
    let sizes = (problem (symbolic_of P proc c)).sizes in
    let f = path.meets_at proc c.start in
    let ps = c.way.steps in
    let k = c.way.check in
    let s = begins proc c.start in
    let sN = steps_walked P proc ps s in
    let w : Within sN.kinds K = check_within P proc k sN in
    let version : s.version ≡ 0 = (walked_grows f no_terms).version in
    let first = first_values P proc K V k ps s 0 x ys values.along in
    let S : Sound K V x.store x.heap s =
    sound_from K V 0 (here P proc ps k s) x s values.null first version
    (λ i k e. w i k (steps_within P proc ps s i k e)) (own_term P proc ps k s) in
    let at_version : (i : ℕ) → i ≡ 0 → Represents V x.heap (M i) =
    λ i e. subst (λ j. Represents V x.heap (M j)) (sym e)
    (subst (λ h. Represents V h (M 0)) front (A.represents 0)) in
    let preserved : IsPreserved m s.version n (value_at V) V (M s.version) (variables s.bindings)
    (successor K s.version) x.store f =
    walked_preserved K V M x.store x.heap n f no_terms A.kinds.count (A.models s.version)
    (at_version s.version version) S in
    let at_start : IsPreserved m 0 n (value_at V) V (M 0) (variables s.bindings) (successor K 0) x.store f =
    subst (λ i. IsPreserved m i n (value_at V) V (M i) (variables s.bindings) (successor K i) x.store f) version
    preserved in
    let agree =
    assertions_agree V x.heap (M 0) x.store f (subst IsProper front (A.proper 0))
    (subst (Owned V) front (A.owned 0)) (at_version 0 refl) (formula_named K V x.store x.heap f no_terms S) in
    let at_heaps : HeapsAre H ps x ys s.version = subst (HeapsAre H ps x ys) (sym version) heaps in
    let along : HaveValues P K V ps (term_steps P proc ps s) (state_bindings P proc ps k s) s.version x ys =
    subst (λ i. HaveValues P K V ps (term_steps P proc ps s) (state_bindings P proc ps k s) i x ys) (sym version)
    values.along in
    let steps = steps_true P proc K V H M A k (own_names P typed) ps s x ys w along at_heaps C.leads in
    let last = last_values P proc K V H k ps s x ys along at_heaps C.leads in
    let i = D.versions - 1 in
    let end : i ≡ sN.version = one_less (check_walked P proc k sN).version sN.version (check_version P proc k sN) in
    let check : AreTrue m (check_formulas K i D.check) =
    check_true P proc K V H M A (own_names P typed) k sN (last_state x ys) i end (λ j k e. e) last.values last.heap
    C.fails in
    let versions : AreTrue m (versions_formulas K D.versions) =
    all_joined T (version_formulas K) (range_with_len 0 D.versions) (λ k d l. version_true V K H M A _) in
    let start : AreTrue m (meets_whole K D.start ∷ []) =
    All-cons T (meets_whole K D.start) [] (at_start.whole.1 (agree.whole.1 C.begins)) (All-nil T) in
    let all_steps : AreTrue m (steps_formulas K 0 D.steps) =
    subst (λ i. AreTrue m (steps_formulas K i (term_steps P proc ps s))) version steps in
    let one = All-append T (versions_formulas K D.versions) (meets_whole K D.start ∷ []) versions start in
    let two =
    All-append T (versions_formulas K D.versions ++ meets_whole K D.start ∷ []) (steps_formulas K 0 D.steps) one
    all_steps in
    record {
      congruence = reflection_congruence sizes V M;
      instances =
          instances_hold sizes m (value_at V) V M
          (λ i l. (A.models i, reflection_homomorphism V M i n A.kinds.count A.kinds.null));
      formulas = All-append T (versions_formulas K D.versions ++ meets_whole K D.start ∷ []
          ++ steps_formulas K 0 D.steps) (check_formulas K i D.check) two check;
    }

-- what is known of the versions of a counterexample
pub versions_known : (P : Program) (proc : Procedure) (c : Condition) (x : State) (ys : List State) (V : List ℕ)
    → IsTyped P → IsCondition P c → IsOf P c proc → IsCounterexample P proc c x ys → AreTermValues P proc c x ys V
    → IsKindValuation (heap_in c.way.steps x ys 0) V (symbolic_of P proc c).terms
    → (M : ℕ → HeapStructure) × AreVersions V (symbolic_of P proc c).terms (heap_in c.way.steps x ys 0) M
versions_known P proc c x ys V typed is of C values kinds =
    let H = heap_in c.way.steps x ys 0 in
    let f = path.meets_at proc c.start in
    let proper : (i : ℕ) → IsProper (H i) =
    λ i. (let z = heap_state c.way.steps x ys 0 i in
    subst IsProper (sym z.2) (all_proper P proc c.way.steps x ys C.leads
    (met_are_proper f x.store x.heap C.begins) z.0 z.1)) in
    let owned : (i : ℕ) → Owned V (H i) =
    λ i. (let z = heap_state c.way.steps x ys 0 i in
    subst (Owned V) (sym z.2) (traces_are_owned P proc c x ys V typed is of C values z.0 z.1)) in
    let M : ℕ → HeapStructure = λ i. (representations_exist V (H i) (proper i) (owned i)).0 in
    let represents : (i : ℕ) → Represents V (H i) (M i) = λ i. (representations_exist V (H i) (proper i) (owned i)).1 in
    let models : (i : ℕ) → IsModelOver V (M i) =
    λ i. heaps_are_models V (H i) (M i) (listed V 0 0 kinds.null) (proper i) (owned i) (represents i) in
    (M, record { kinds = kinds; proper = proper; owned = owned; represents = represents; models = models })

pub traces_satisfy : TracesSatisfy
traces_satisfy P proc c x ys typed is of C =
    let f = found P proc c x ys typed of C in
    let H = heap_in c.way.steps x ys 0 in
    let known = versions_known P proc c x ys f.0 typed is of C f.1 f.2 in (
      reflection f.0 known.0,
      reflected P proc c x ys f.0 H known.0 typed C f.1 known.1 (front_heap c.way.steps x ys 0)
          (heaps_are P proc H c.way.steps x ys 0 C.leads (λ j l. refl)),
    )
