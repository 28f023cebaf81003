-- The formulas of the steps of a counterexample.
use Rattle.std.specs.Prelude.{◌≡◌, ℕ, ◌+◌, ◌<◌, List, [], ◌∷◌, length, slice_get, Option, Some, None, Bool, true, ◌==◌}
use Rattle.std.specs.Prelude.{Contains}
use Rattle.std.specs.FinMap.{get, insert, remove}
use Rattle.std.proofs.Common.{refl, sym, ◌∙◌, ap, subst, arith}
use Rattle.std.proofs.lemmas.List.Elements.{All-nil, All-cons, All-append}
use Rattle.gh_base.specs.Meaning.{Interpretation}
use Rattle.gh_base.specs.Atoms.{term}
use Rattle.gh_ast.specs.declared.Occ.{Occ}
use Rattle.gh_ast.specs.declared.Expr.{Expr}
use Rattle.gh_ast.specs.Plain.{Assertion, Procedure, Program}
use Rattle.gh_ast.specs.Programs.{Name, names, results_of, variable_names}
use Rattle.gh_assert.specs.Heaps.{Heap, IsProper}
use Rattle.gh_assert.specs.Meaning.{Store, Meaning, agrees}
use Rattle.gh_assert.specs.Values.{result, compared as outcome_of}
use Rattle.gh_assert.specs.Ownership.{Owned}
use Rattle.gh_assert.proofs.Cells.{get_put, get_beside}
use Rattle.gh_assert.proofs.Unique.{get_removed, get_kept}
use Rattle.gh_path.specs.Graphs as path
use Rattle.gh_path.specs.Terms.{Kind, next, Terms, used, term_of, expr_used, expr_term, exprs_used, exprs_terms, walked}
use Rattle.gh_path.specs.Terms.{each_walked, moved_on, rebound, bound_inside, call_walked, step_walked, steps_walked}
use Rattle.gh_grass.specs.Claims.{GroundFormula}
use Rattle.gh_grass.specs.Footprints.{compared}
use Rattle.gh_grass.specs.Truth.{truth, AreTrue}
use Rattle.gh_symb.specs.Symbolic.{under, each_under, call_parts, loop_parts, term_step, term_steps, state_bindings}
use Rattle.gh_symb.specs.Formulas.{allocated, variables, successor, part_formulas, step_formulas, steps_formulas}
use Rattle.gh_symb.specs.Formulas.{version_after}
use Rattle.gh_trace.specs.Traces.{State, Replaced, StepLeads, IsTrace}
use Rattle.gh_trace.specs.Laws.{HasOwnNames}
use Rattle.gh_model.specs.Structures.{HeapStructure}
use Rattle.gh_model.specs.Representations.{Represents}
use Rattle.gh_model.specs.Transitions.{IsPut, IsFreed, IsCalled, StepsByWrite, StepsByNew, StepsByFree, StepsByCall}
use Rattle.gh_model.specs.StepLaws.{AreRepresented}
use Rattle.gh_model.specs.Homomorphisms.{IsHomomorphism, IsPreserved}
use Rattle.gh_model.specs.TermValues.{path_version, HasResultValues, HaveValues}
use Rattle.gh_model.proofs.terms.Extension.{Within, stays, bound_same, followed_grows, expr_grows, exprs_grow}
use Rattle.gh_model.proofs.terms.Extension.{walked_grows, each_grows}
use Rattle.gh_model.proofs.terms.Denotation.{Sound, listed, term_at, formula_named, expr_value, exprs_values}
use Rattle.gh_model.proofs.terms.Callees.{with_results, with_assigned, assigned_version, renewed_within}
use Rattle.gh_model.proofs.terms.Callees.{renewed_version, inside_before, inside_after}
use Rattle.gh_model.proofs.terms.Alternatives.{walked_there, alternative_sound, one_met, part_one}
use Rattle.gh_model.proofs.reading.Assertions.{compared_truth, value_truth}
use Rattle.gh_model.proofs.reading.StepFormulas.{writes_are_preserved, news_are_preserved, frees_are_preserved}
use Rattle.gh_model.proofs.reading.StepFormulas.{calls_are_preserved}
use Rattle.gh_model.proofs.heaps.StructureSteps.{writes_are_represented, news_are_represented, frees_are_represented}
use Rattle.gh_model.proofs.heaps.StructureSteps.{calls_are_represented}
use Rattle.gh_model.proofs.ownership.Traces.{step_version, steps_within, first_values, IsStep, sound_used, sound_after}
use Rattle.gh_model.proofs.ownership.Traces.{loop_sound, one_given, same_number}
use Rattle.gh_path.proofs.ListLemmas.{member as numbered}
use Rattle.gh_model.proofs.soundness.TraceValues.{HeapsAre, first_heap}
use Rattle.gh_model.proofs.soundness.Interpretation.{value_at, value_of, within_list, reflection}
use Rattle.gh_model.proofs.soundness.Interpretation.{reflection_homomorphism, walked_preserved}
use Rattle.gh_model.proofs.soundness.Versions.{AreVersions}

-- the assertion, under the terms before its walk
pub under_preserved : (K : List Kind) (V : List ℕ) (H : ℕ → Heap) (M : ℕ → HeapStructure) → AreVersions V K H M
    → (st : Store) (h : Heap) (f : Assertion) (s : Terms) (i : ℕ) → s.version ≡ i → H i ≡ h
    → Sound K V st h (walked f s)
    → IsPreserved (reflection V M) i (length K) (value_at V) V (M i) (variables (walked f s).bindings) (successor K i)
    st f
under_preserved K V H M A st h f s i version at S =
    let j = (walked f s).version in
    let same : j ≡ i = (walked_grows f s).version ∙ version in
    let represents : Represents V h (M j) =
    subst (λ k. Represents V h (M k)) (sym same) (subst (λ g. Represents V g (M i)) at (A.represents i)) in
    subst (λ k. IsPreserved (reflection V M) k (length K) (value_at V) V (M k) (variables (walked f s).bindings)
    (successor K k) st f) same
    (walked_preserved K V M st h (length K) f s A.kinds.count (A.models j) represents S)

agree_both : (K : List Kind) (V : List ℕ) (H : ℕ → Heap) (M : ℕ → HeapStructure) → AreVersions V K H M
    → (i j : ℕ) (h k : Heap) → H i ≡ h → H j ≡ k → AreRepresented V h k (M i) (M j)
agree_both K V H M A i j h k a b = record {
  proper = subst IsProper a (A.proper i);
  proper_after = subst IsProper b (A.proper j);
  owned = subst (Owned V) a (A.owned i);
  owned_after = subst (Owned V) b (A.owned j);
  represents = subst (λ g. Represents V g (M i)) a (A.represents i);
  represents_after = subst (λ g. Represents V g (M j)) b (A.represents j);
}

homomorphism_at : (K : List Kind) (V : List ℕ) (H : ℕ → Heap) (M : ℕ → HeapStructure) → AreVersions V K H M → (i : ℕ)
    → IsHomomorphism (reflection V M) i (length K) (value_at V) V (M i)
homomorphism_at K V H M A i = reflection_homomorphism V M i (length K) A.kinds.count A.kinds.null

below : (V : List ℕ) (n t v : ℕ) → length V ≡ n → slice_get V t ≡ Some v → t < n
below V n t v count e = omega (arith, within_list V t v e, count)

put_of : (h k : Heap) (a v : ℕ) → k ≡ insert h a v → IsPut h k a v
put_of h k a v e = record {
  here = ap (λ g. get g a) e ∙ get_put h a v;
  elsewhere = λ q away. ap (λ g. get g q) e ∙ get_beside h a v q away;
}

freed_of : (h k : Heap) (a : ℕ) → k ≡ remove h a → IsFreed h k a
freed_of h k a e = record {
  here = ap (λ g. get g a) e ∙ get_removed h a;
  elsewhere = λ q away. ap (λ g. get g q) e ∙ get_kept h a q away;
}

called_of : (f g : Assertion) (s t : Store) (h k : Heap) → Replaced f s h (Meaning g t) k → IsCalled h k f g s t
called_of f g s t h k R =
    record {
      given = R.part;
      back = R.other;
      rest = R.frame;
      before = R.splits;
      after = R.joins;
      meets = R.met;
      returns = R.meets;
    }

-- what a comparison gave
both_known : (e : Bool) (a b : Option ℕ) → outcome_of e a b ≡ Some true
    → (u : ℕ) × (v : ℕ) × (a ≡ Some u) × (b ≡ Some v) × (agrees e (u == v) ≡ true)
both_known e (Some u) (Some v) is = (u, v, refl, refl, cc)
both_known e (Some u) None is = absurd cc
both_known e None b is = absurd cc

pub one_claim : (m : Interpretation) (g : GroundFormula) → truth m g ≡ true → AreTrue m (g ∷ [])
one_claim m g e = All-cons (λ u. truth m u ≡ true) g [] e (All-nil (λ u. truth m u ≡ true))

access_true : (P : Program) (home : Procedure) (K : List Kind) (V : List ℕ) (H : ℕ → Heap) (M : ℕ → HeapStructure)
    → AreVersions V K H M → (c : path.Check) (o : Occ) (ps : List path.PathStep) (s : Terms) (x y : State)
    → IsStep P home K V c (path.access_step o) ps s x y → H s.version ≡ x.heap
    → AreTrue (reflection V M) (step_formulas K s.version (term_step P home (path.access_step o) s))
access_true P home K V H M A c o ps s x y I at =
    let S : Sound K V x.store x.heap (used o.name s) =
    sound_used P home K V c (path.access_step o) ps s x y I
    (λ i k e. I.within i k ((followed_grows o.name (used o.name s)).kinds i k e)) in
    let t = term_of o.name (used o.name s) in
    let value' : slice_get V t ≡ Some (x.store o.name) =
    term_at K V x.store x.heap o.name s (used o.name s) (stays (used o.name s)) S in
    let is : value_at V t ≡ x.store o.name = value_of V t (x.store o.name) value' in
    let T : Represents V x.heap (M s.version) = subst (λ g. Represents V g (M s.version)) at (A.represents s.version) in
    one_claim (reflection V M) (allocated s.version (term t))
    (ap (M s.version).alloc is ∙ (T.alloc (x.store o.name) (listed V t (x.store o.name) value')).1 I.takes.0)

assume_true : (P : Program) (home : Procedure) (K : List Kind) (V : List ℕ) (H : ℕ → Heap) (M : ℕ → HeapStructure)
    → AreVersions V K H M → (c : path.Check) (l : Expr) (e : Bool) (r : Expr) (ps : List path.PathStep) (s : Terms)
    (x y : State) → IsStep P home K V c (path.assume_step l e r) ps s x y
    → AreTrue (reflection V M) (step_formulas K s.version (term_step P home (path.assume_step l e r) s))
assume_true P home K V H M A c l e r ps s x y I =
    let T = expr_used r (expr_used l s) in
    let S : Sound K V x.store x.heap T = sound_used P home K V c (path.assume_step l e r) ps s x y I I.within in
    let (u, v, eu, ev, is) = both_known e (result x.store x.heap l) (result x.store x.heap r) I.takes.0 in
    let a = expr_value K V x.store x.heap l s T u (expr_grows r (expr_used l s)) S eu in
    let b = expr_value K V x.store x.heap r (expr_used l s) T v (stays T) S ev in
    let n = length K in
    let same =
    value_truth (reflection V M) s.version n (value_at V) V (M s.version) (homomorphism_at K V H M A s.version)
    (expr_term l T) (expr_term r T) (below V n (expr_term l T) u A.kinds.count a)
    (below V n (expr_term r T) v A.kinds.count b)
    ∙ ap (λ w. w == value_at V (expr_term r T)) (value_of V (expr_term l T) u a)
    ∙ ap (λ w. u == w) (value_of V (expr_term r T) v b) in
    one_claim (reflection V M) (compared (term (expr_term l T)) e (term (expr_term r T)))
    (compared_truth (reflection V M) e (term (expr_term l T)) (term (expr_term r T)) (u == v) same ∙ is)

new_true : (P : Program) (home : Procedure) (K : List Kind) (V : List ℕ) (H : ℕ → Heap) (M : ℕ → HeapStructure)
    → AreVersions V K H M → (c : path.Check) (o : Occ) (ps : List path.PathStep) (s : Terms) (x y : State)
    → IsStep P home K V c (path.new_step o) ps s x y → H s.version ≡ x.heap → H (s.version + 1) ≡ y.heap
    → AreTrue (reflection V M) (step_formulas K s.version (term_step P home (path.new_step o) s))
new_true P home K V H M A c o ps s x y I at at' =
    let (l, v, some, free, gets, heap) = I.takes in
    let (l', v', el, ev, content) = I.cells in
    let S = sound_after P home K V c (path.new_step o) ps s x y I in
    let placed : slice_get V (length s.kinds) ≡ Some (y.store o.name) =
    S.bound o.name (length s.kinds) (bound_same s.bindings o.name (length s.kinds)) in
    let place : l' ≡ l = same_number l' l (sym el ∙ placed ∙ ap Some (one_given (y.store o.name) l gets.given)) in
    let cell : v' ≡ v =
    same_number v' v (sym content ∙ ap (get y.heap) place ∙ ap (λ h. get h l) heap ∙ get_put x.heap l v) in
    let el' : slice_get V (length s.kinds) ≡ Some l = el ∙ ap Some place in
    let ev' : slice_get V (length s.kinds + 1) ≡ Some v = ev ∙ ap Some cell in
    let n = length K in
    let i = s.version in
    let says =
    news_are_represented V x.heap y.heap (M i) (M (i + 1)) (agree_both K V H M A i (i + 1) x.heap y.heap at at') l v
    (listed V (length s.kinds) l el') (listed V (length s.kinds + 1) v ev') free (put_of x.heap y.heap l v heap) in
    (news_are_preserved (reflection V M) i n (value_at V) V (M i) (M (i + 1)) (homomorphism_at K V H M A i)
    (homomorphism_at K V H M A (i + 1)) (length s.kinds) (length s.kinds + 1)
    (below V n (length s.kinds) l A.kinds.count el') (below V n (length s.kinds + 1) v A.kinds.count ev')).1
    (subst (λ a. StepsByNew V (M i) (M (i + 1)) a (value_at V (length s.kinds + 1)))
    (sym (value_of V (length s.kinds) l el'))
    (subst (λ b. StepsByNew V (M i) (M (i + 1)) l b) (sym (value_of V (length s.kinds + 1) v ev')) says))

write_true : (P : Program) (home : Procedure) (K : List Kind) (V : List ℕ) (H : ℕ → Heap) (M : ℕ → HeapStructure)
    → AreVersions V K H M → (c : path.Check) (o : Occ) (e : Expr) (ps : List path.PathStep) (s : Terms) (x y : State)
    → IsStep P home K V c (path.write_step o e) ps s x y → H s.version ≡ x.heap → H (s.version + 1) ≡ y.heap
    → AreTrue (reflection V M) (step_formulas K s.version (term_step P home (path.write_step o e) s))
write_true P home K V H M A c o e ps s x y I at at' =
    let (v, gives, a, to) = I.takes in
    let T = expr_used e (used o.name s) in
    let S : Sound K V x.store x.heap T = sound_used P home K V c (path.write_step o e) ps s x y I I.within in
    let tx = term_of o.name T in
    let te = expr_term e T in
    let ex : slice_get V tx ≡ Some (x.store o.name) =
    term_at K V x.store x.heap o.name s T (expr_grows e (used o.name s)) S in
    let ee : slice_get V te ≡ Some v = expr_value K V x.store x.heap e (used o.name s) T v (stays T) S gives in
    let n = length K in
    let i = s.version in
    let says =
    writes_are_represented V x.heap y.heap (M i) (M (i + 1)) (agree_both K V H M A i (i + 1) x.heap y.heap at at')
    (x.store o.name) v (listed V tx (x.store o.name) ex) (listed V te v ee) a
    (put_of x.heap y.heap (x.store o.name) v (ap (λ (z : State). z.heap) to)) in
    (writes_are_preserved (reflection V M) i n (value_at V) V (M i) (M (i + 1)) (homomorphism_at K V H M A i)
    (homomorphism_at K V H M A (i + 1)) tx te (below V n tx (x.store o.name) A.kinds.count ex)
    (below V n te v A.kinds.count ee)).1
    (subst (λ u. StepsByWrite V (M i) (M (i + 1)) u (value_at V te)) (sym (value_of V tx (x.store o.name) ex))
    (subst (λ b. StepsByWrite V (M i) (M (i + 1)) (x.store o.name) b) (sym (value_of V te v ee)) says))

free_true : (P : Program) (home : Procedure) (K : List Kind) (V : List ℕ) (H : ℕ → Heap) (M : ℕ → HeapStructure)
    → AreVersions V K H M → (c : path.Check) (o : Occ) (ps : List path.PathStep) (s : Terms) (x y : State)
    → IsStep P home K V c (path.free_step o) ps s x y → H s.version ≡ x.heap → H (s.version + 1) ≡ y.heap
    → AreTrue (reflection V M) (step_formulas K s.version (term_step P home (path.free_step o) s))
free_true P home K V H M A c o ps s x y I at at' =
    let (a, to) = I.takes in
    let T = used o.name s in
    let S : Sound K V x.store x.heap T = sound_used P home K V c (path.free_step o) ps s x y I I.within in
    let tx = term_of o.name T in
    let ex : slice_get V tx ≡ Some (x.store o.name) = term_at K V x.store x.heap o.name s T (stays T) S in
    let n = length K in
    let i = s.version in
    let says =
    frees_are_represented V x.heap y.heap (M i) (M (i + 1)) (agree_both K V H M A i (i + 1) x.heap y.heap at at')
    (x.store o.name) (listed V tx (x.store o.name) ex)
    (freed_of x.heap y.heap (x.store o.name) (ap (λ (z : State). z.heap) to)) in
    (frees_are_preserved (reflection V M) i n (value_at V) V (M i) (M (i + 1)) (homomorphism_at K V H M A i)
    (homomorphism_at K V H M A (i + 1)) tx (below V n tx (x.store o.name) A.kinds.count ex)).1
    (subst (λ u. StepsByFree V (M i) (M (i + 1)) u) (sym (value_of V tx (x.store o.name) ex)) says)

-- a part that gives way, and one that comes
replaced_true : (K : List Kind) (V : List ℕ) (H : ℕ → Heap) (M : ℕ → HeapStructure) → AreVersions V K H M
    → (f g : Assertion) (s r : Terms) (i : ℕ) (st st' : Store) (h k : Heap) → s.version ≡ i → r.version ≡ i + 1
    → H i ≡ h → H (i + 1) ≡ k → Sound K V st h (walked f s) → Sound K V st' k (walked g r)
    → Replaced f st h (Meaning g st') k
    → AreTrue (reflection V M) (part_formulas K i (under f s) (under g r ∷ []))
replaced_true K V H M A f g s r i st st' h k vs vr at at' S S' R =
    let n = length K in
    let m = reflection V M in
    let I : IsPreserved m i n (value_at V) V (M i) (variables (walked f s).bindings) (successor K i) st f =
    under_preserved K V H M A st h f s i vs at S in
    let J : IsPreserved m (i + 1) n (value_at V) V (M (i + 1)) (variables (walked g r).bindings) (successor K (i + 1))
    st' g = under_preserved K V H M A st' k g r (i + 1) vr at' S' in
    let says =
    calls_are_represented V h k (M i) (M (i + 1)) f g st st' (agree_both K V H M A i (i + 1) h k at at')
    (formula_named K V st h f s S) (formula_named K V st' k g r S') (called_of f g st st' h k R) in
    let i' = s.version in
    let step : AreTrue m (part_formulas K i' (under f s) (under g r ∷ [])) =
    (calls_are_preserved m (value_at V) V (M i') (M (i' + 1)) K (under f s) (under g r) st st'
    (homomorphism_at K V H M A i') (homomorphism_at K V H M A (i' + 1))
    (subst (λ j. IsPreserved m j n (value_at V) V (M j) (variables (walked f s).bindings) (successor K j) st f) (sym vs)
    I)
    (subst (λ j. IsPreserved m r.version n (value_at V) V (M (j + 1)) (variables (walked g r).bindings)
    (successor K r.version) st' g) (sym vs)
    (subst (λ j. IsPreserved m j n (value_at V) V (M (i + 1)) (variables (walked g r).bindings) (successor K j)
    st' g) (sym vr) J))).1
    (subst (λ j. StepsByCall V (M j) (M (j + 1)) f g st st') (sym vs) says) in
    subst (λ j. AreTrue m (part_formulas K j (under f s) (under g r ∷ []))) vs step

called_true : (P : Program) (home : Procedure) (K : List Kind) (V : List ℕ) (H : ℕ → Heap) (M : ℕ → HeapStructure)
    → AreVersions V K H M → (c : path.Check) (ys : List Occ) (n : ℕ) (es : List Expr) (ps : List path.PathStep)
    (s : Terms) (x y : State) → IsStep P home K V c (path.call_step ys n es) ps s x y → H s.version ≡ x.heap
    → H (s.version + 1) ≡ y.heap
    → AreTrue (reflection V M) (step_formulas K s.version (term_step P home (path.call_step ys n es) s))
called_true P home K V H M A c ys n es ps s x y I at at' =
    let (proc, vs, found', give, C) = I.takes in
    let T = exprs_used es s in
    let ts = exprs_terms es T in
    let own = I.own_names proc (numbered P.procedures n proc found') in
    let s1 : Terms = rebound T (bound_inside proc ts) in
    let mid : Terms = with_results proc s1 in
    let all : Within (each_walked proc.gives mid).kinds K =
    subst (λ o. Within (call_walked o (names ys) ts T).kinds K) found' I.within in
    let some : Within (walked proc.needs s1).kinds K =
    λ i k e. all i k ((each_grows proc.gives mid).kinds i k
    (renewed_within (results_of proc) (moved_on (walked proc.needs s1)) i k e)) in
    let few : Within T.kinds K = λ i k e. some i k ((walked_grows proc.needs s1).kinds i k e) in
    let S : Sound K V x.store x.heap T = sound_used P home K V c (path.call_step ys n es) ps s x y I few in
    let values = exprs_values K V x.store x.heap es vs s S give in
    let R : HasResultValues P V (path.call_step ys n es) (call_parts (Some proc) ts T) y =
    subst (λ o. HasResultValues P V (path.call_step ys n es) (call_parts o ts T) y) found' I.results in
    let version : T.version ≡ s.version = (exprs_grow es s).version in
    let first =
    inside_before K V x.heap proc ts vs T C.inside own.needs_in values C.arguments I.null some
    (λ t u v e. I.values.next t u v (e ∙ ap (λ i. Some (next i u)) version)) in
    let (g, there, R') = one_met proc.needs C.inside x.heap proc.gives C.inside y.heap C.replaced in
    let (t, W) = walked_there proc.gives mid g there in
    let results : (r : Name) (j : ℕ) → Contains (results_of proc) r → mid.bindings r ≡ Some j
    → slice_get V j ≡ Some (C.inside r) =
    λ r j c e. R proc C.inside found' (sym C.targets.given) (under g t) W.told r j c
    ((walked_grows g t).bindings r j (W.first.bindings r j e)) in
    let last =
    inside_after K V y.heap proc ts vs T C.inside own.needs_in own.gives_in values C.arguments I.null all
    (λ t u v e. I.after.next t u v (e ∙ ap (λ i. Some (next (i + 1) u)) version)) results in
    let later : mid.version ≡ s.version + 1 =
    renewed_version (results_of proc) (moved_on (walked proc.needs s1))
    ∙ ap (λ i. i + 1) ((walked_grows proc.needs s1).version ∙ version) in
    let one =
    replaced_true K V H M A proc.needs g s1 t s.version C.inside C.inside x.heap y.heap version
    (W.first.version ∙ later) at at' first (alternative_sound K V C.inside y.heap proc.gives mid g t W last) R' in
    subst (λ o. AreTrue (reflection V M) (step_formulas K s.version (call_parts o ts T))) (sym found')
    (part_one (reflection V M) K s.version (under proc.needs s1) (each_under proc.gives mid) (under g t) W.told one)

looped_true : (P : Program) (home : Procedure) (K : List Kind) (V : List ℕ) (H : ℕ → Heap) (M : ℕ → HeapStructure)
    → AreVersions V K H M → (c : path.Check) (n : ℕ) (ps : List path.PathStep) (s : Terms) (x y : State)
    → IsStep P home K V c (path.while_step n) ps s x y → H s.version ≡ x.heap → H (s.version + 1) ≡ y.heap
    → AreTrue (reflection V M) (step_formulas K s.version (term_step P home (path.while_step n) s))
looped_true P home K V H M A c n ps s x y I at at' =
    let (l, is, R) = I.takes in
    let xs = variable_names home in
    let S = loop_sound P home K V c n l ps s x y is I in
    let one : AreTrue (reflection V M) (step_formulas K s.version (loop_parts (Some l) xs s)) =
    replaced_true K V H M A l.invariant l.invariant s (with_assigned l xs s) s.version x.store y.store x.heap y.heap
    refl (assigned_version l xs s) at at' S.0 S.1 R.replaced in
    subst (λ o. AreTrue (reflection V M) (step_formulas K s.version (loop_parts o xs s))) (sym is) one

step_true : (P : Program) (home : Procedure) (K : List Kind) (V : List ℕ) (H : ℕ → Heap) (M : ℕ → HeapStructure)
    → AreVersions V K H M → (c : path.Check) (proc : path.PathStep) (ps : List path.PathStep) (s : Terms) (x y : State)
    → IsStep P home K V c proc ps s x y → H s.version ≡ x.heap → H (path_version proc s.version) ≡ y.heap
    → AreTrue (reflection V M) (step_formulas K s.version (term_step P home proc s))
step_true P home K V H M A c (path.access_step o) ps s x y I at at' = access_true P home K V H M A c o ps s x y I at
step_true P home K V H M A c (path.assume_step l e r) ps s x y I at at' =
    assume_true P home K V H M A c l e r ps s x y I
step_true P home K V H M A c (path.set_step o e) ps s x y I at at' = All-nil (λ g. truth (reflection V M) g ≡ true)
step_true P home K V H M A c (path.new_step o) ps s x y I at at' = new_true P home K V H M A c o ps s x y I at at'
step_true P home K V H M A c (path.write_step o e) ps s x y I at at' =
    write_true P home K V H M A c o e ps s x y I at at'
step_true P home K V H M A c (path.free_step o) ps s x y I at at' = free_true P home K V H M A c o ps s x y I at at'
step_true P home K V H M A c (path.call_step ys n es) ps s x y I at at' =
    called_true P home K V H M A c ys n es ps s x y I at at'
step_true P home K V H M A c (path.while_step n) ps s x y I at at' = looped_true P home K V H M A c n ps s x y I at at'
step_true P home K V H M A c (path.return_step es) ps s x y I at at' = All-nil (λ g. truth (reflection V M) g ≡ true)

-- the version after a step, read off its terms
same_version : (P : Program) (home : Procedure) (proc : path.PathStep) (s : Terms) (i : ℕ) (x y : State)
    → StepLeads P home proc x y → version_after i (term_step P home proc s) ≡ path_version proc i
same_version P home (path.access_step o) s i x y t = refl
same_version P home (path.assume_step l e r) s i x y t = refl
same_version P home (path.set_step o e) s i x y t = refl
same_version P home (path.new_step o) s i x y t = refl
same_version P home (path.write_step o e) s i x y t = refl
same_version P home (path.free_step o) s i x y t = refl
same_version P home (path.call_step ys n es) s i x y t =
    ap (λ o. version_after i (call_parts o (exprs_terms es (exprs_used es s)) (exprs_used es s))) t.2
same_version P home (path.while_step n) s i x y t = ap (λ o. version_after i (loop_parts o (variable_names home) s)) t.1
same_version P home (path.return_step es) s i x y t = refl

pub steps_true : (P : Program) (home : Procedure) (K : List Kind) (V : List ℕ) (H : ℕ → Heap) (M : ℕ → HeapStructure)
    → AreVersions V K H M → (c : path.Check) → ((q : Procedure) → Contains P.procedures q → HasOwnNames q)
    → (ps : List path.PathStep) (s : Terms) (x : State) (ys : List State) → Within (steps_walked P home ps s).kinds K
    → HaveValues P K V ps (term_steps P home ps s) (state_bindings P home ps c s) s.version x ys
    → HeapsAre H ps x ys s.version → IsTrace P home x ps ys
    → AreTrue (reflection V M) (steps_formulas K s.version (term_steps P home ps s))
steps_true P home K V H M A c N [] s x ys w values at T = All-nil (λ g. truth (reflection V M) g ≡ true)
steps_true P home K V H M A c N (proc ∷ ps) s x [] w values at T = absurd T
steps_true P home K V H M A c N (proc ∷ ps) s x (y ∷ ys) w values at T =
    let t = step_walked P home proc s in
    let i = s.version in
    let next' : H (path_version proc i) ≡ y.heap = first_heap H ps y ys (path_version proc i) at.1 in
    let version : t.version ≡ path_version proc i = step_version P home proc s x y T.0 in
    let I : IsStep P home K V c proc ps s x y = record {
      own_names = N;
      null = A.kinds.null;
      within = λ j k e. w j k (steps_within P home ps t j k e);
      values = values.0;
      cells = values.1;
      results = values.2;
      after = first_values P home K V c ps t (path_version proc i) y ys values.3;
      takes = T.0;
      proper = subst IsProper at.0 (A.proper i);
      owned = subst (Owned V) at.0 (A.owned i);
    } in
    let rest = steps_true P home K V H M A c N ps t y ys w
    (subst (λ j. HaveValues P K V ps (term_steps P home ps t) (state_bindings P home ps c t) j y ys) (sym version)
    values.3)
    (subst (HeapsAre H ps y ys) (sym version) at.1) T.1 in
    let past : t.version ≡ version_after i (term_step P home proc s) =
    version ∙ sym (same_version P home proc s i x y T.0) in
    All-append (λ g. truth (reflection V M) g ≡ true) (step_formulas K i (term_step P home proc s))
    (steps_formulas K (version_after i (term_step P home proc s)) (term_steps P home ps t))
    (step_true P home K V H M A c proc ps s x y I at.0 next')
    (subst (λ j. AreTrue (reflection V M) (steps_formulas K j (term_steps P home ps t))) past rest)
