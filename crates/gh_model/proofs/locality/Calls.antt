-- Calls and loops of a built trace.
use Rattle.std.specs.Prelude.{◌≡◌, ℕ, ◌+◌, ◌<◌, List, [], ◌∷◌, ◌++◌, length, map, filter, slice_get, unwrap_or, Some}
use Rattle.std.specs.Prelude.{None, Contains}
use Rattle.std.proofs.Common.{refl, sym, ◌∙◌, ap, subst, inl, inr}
use Rattle.std.proofs.lemmas.List.{length-map}
use Rattle.std.proofs.lemmas.List.Elements.{Contains-append_cases}
use Rattle.gh_base.specs.Meaning.{Interpretation}
use Rattle.gh_ast.specs.declared.Occ.{Occ}
use Rattle.gh_ast.specs.declared.Expr.{Expr}
use Rattle.gh_ast.specs.Plain.{Assertion, empty, comparison, points_to, cell, segment, star, cases, Assertions}
use Rattle.gh_ast.specs.Plain.{no_assertions, assertion_first, Procedure, Program}
use Rattle.gh_ast.specs.Programs.{Name, names, parameters_of, results_of, variable_names, SomeAssigns}
use Rattle.gh_ast.specs.Names.{AssertionIn}
use Rattle.gh_ast.specs.Occurrences.{in_assertion}
use Rattle.gh_ast.proofs.Lists.{member_first, member_later}
use Rattle.gh_ast.proofs.Members.{name_or}
use Rattle.gh_ast.proofs.Sites.{member_map, occurrence_of, formula_in}
use Rattle.gh_ast.proofs.TypedPrograms.{results_are_not_parameters}
use Rattle.gh_assert.specs.Heaps.{Heap}
use Rattle.gh_assert.specs.Meaning.{Store, Meaning, MeetsOneOf}
use Rattle.gh_assert.specs.Reading.{HasNames, HaveNames}
use Rattle.gh_path.specs.Graphs as path
use Rattle.gh_path.specs.Terms.{Kind, with_value, Bindings, unbound, bound, all_bound, Terms, terms, term_of}
use Rattle.gh_path.specs.Terms.{exprs_used, expr_term, exprs_terms, walked, each_walked, moved_on, rebound, renewed}
use Rattle.gh_path.specs.Terms.{some_assigns, bound_inside, call_walked, loop_walked, invariant_walked, step_walked}
use Rattle.gh_path.proofs.LoopVariables.{listed_assigned}
use Rattle.gh_grass.specs.Truth.{AreTrue}
use Rattle.gh_symb.specs.Symbolic.{under, each_under, call_parts, loop_parts, step_used}
use Rattle.gh_symb.specs.Formulas.{variables, successor, part_formulas, step_formulas}
use Rattle.gh_trace.specs.Traces.{Replaced, StepLeads}
use Rattle.gh_trace.specs.Laws.{HasOwnNames}
use Rattle.gh_model.specs.Operands.{IsNamed, AreNamed}
use Rattle.gh_model.specs.Versions.{version_of}
use Rattle.gh_model.specs.Transitions.{IsCalled}
use Rattle.gh_model.specs.Homomorphisms.{IsPreserved}
use Rattle.gh_model.specs.BuiltTraces.{value_under, store_under}
use Rattle.gh_model.proofs.terms.Extension.{Within, exprs_grow, walked_grows, each_grows}
use Rattle.gh_model.proofs.terms.Denotation.{Sound, formula_named, exprs_values}
use Rattle.gh_model.proofs.terms.Callees.{Gives, Knows, AllBound, all_known, renewed_known, renewed_version}
use Rattle.gh_model.proofs.terms.Callees.{renewed_within, walk_keeps, each_keeps, with_results, with_assigned}
use Rattle.gh_model.proofs.terms.Callees.{assigned_within, assigned_version, inside_before, inside_after}
use Rattle.gh_model.proofs.terms.Alternatives.{alternative_of, alternative_sound, one_part, met_one}
use Rattle.gh_model.proofs.heaps.HeapSteps.{calls_are_built}
use Rattle.gh_model.proofs.reading.StepFormulas.{calls_are_preserved}
use Rattle.gh_model.proofs.soundness.Interpretation.{value_at, formula_known}
use Rattle.gh_model.proofs.ownership.Traces.{here, own_names}
use Rattle.gh_path.proofs.ListLemmas.{member as numbered}
use Rattle.gh_model.proofs.paths.Typing.{Distinct, parameters_and_results}
use Rattle.gh_model.proofs.terms.Bounds.{IsBounded, still_below, call_within, inside_bounded, results_bounded}
use Rattle.gh_model.proofs.locality.BuiltVersions.{AreGround, preserved, value_is}
use Rattle.gh_model.proofs.locality.Steps.{heap_of, IsLocal, state_before, state_after, sound_used, sound_after}
use Rattle.gh_model.proofs.locality.Steps.{exprs_result, bound_away, bound_outside, bound_terms, cons_options}
use Rattle.gh_model.proofs.locality.Steps.{store_values, all_at, step_gets, term_stays, prepared_version}

-- operands with names
mutual
  is_named : (f : Assertion) (s : Store) (h : Heap) (V : List ℕ) → HasNames f s h V → IsNamed f s V
  is_named empty s h V N = tt
  is_named (comparison l e r) s h V N = N
  is_named (points_to x y) s h V N = (N.0, N.2)
  is_named (cell x) s h V N = N.0
  is_named (segment x y) s h V N = N
  is_named (star fs) s h V N = are_named fs s h V N
  is_named (cases t f g) s h V N = (is_named f s h V N.0, is_named g s h V N.1)

  are_named : (fs : Assertions) (s : Store) (h : Heap) (V : List ℕ) → HaveNames fs s h V → AreNamed fs s V
  are_named no_assertions s h V N = tt
  are_named (assertion_first f fs) s h V N = (is_named f s h V N.0, are_named fs s h V N.1)

-- a part that meets an assertion, walked under the terms of s, gives way to one that meets another, walked under those
-- of t
replaced : (m : Interpretation) (K : List Kind) (V : List ℕ) (at : ℕ → ℕ) (N : ℕ) → AreGround m K V at N
    → (f g : Assertion) (st st' : Store) (s t : Terms) → s.version < N → s.version + 1 < N → t.version ≡ s.version + 1
    → Sound K V st (heap_of m V s.version) (walked f s) → Sound K V st' (heap_of m V (s.version + 1)) (walked g t)
    → AreTrue m (part_formulas K s.version (under f s) (under g t ∷ []))
    → Replaced f st (heap_of m V s.version) (Meaning g st') (heap_of m V (s.version + 1))
replaced m K V at N G f g st st' s t before after version S S' A =
    let i = s.version in
    let n = length K in
    let M = version_of m i in
    let M' = version_of m (i + 1) in
    let there : t.version < N = subst (λ j. j < N) (sym version) after in
    let back : Sound K V st' (heap_of m V t.version) (walked g t) =
    subst (λ j. Sound K V st' (heap_of m V j) (walked g t)) (sym version) S' in
    let spoken' : IsPreserved m t.version n (value_at V) V M' (variables (walked g t).bindings) (successor K t.version)
    st' g =
    subst (λ j. IsPreserved m t.version n (value_at V) V (version_of m j) (variables (walked g t).bindings)
    (successor K t.version) st' g) version (preserved m K V at N G st' g t there back) in
    let says = (calls_are_preserved m (value_at V) V M M' K (under f s) (under g t) st st' (G.homomorphism i before)
    (G.homomorphism (i + 1) after) (preserved m K V at N G st f s before S) spoken').0 A in
    let C : IsCalled (heap_of m V i) (heap_of m V (i + 1)) f g st st' =
    calls_are_built V M M' f g st st' (G.model i before) (G.model (i + 1) after)
    (is_named f st (heap_of m V i) V (formula_named K V st (heap_of m V i) f s S))
    (is_named g st' (heap_of m V (i + 1)) V (formula_named K V st' (heap_of m V (i + 1)) g t S')) says in
    record {
      part = C.given;
      frame = C.rest;
      other = C.back;
      splits = C.before;
      met = C.meets;
      joins = C.after;
      meets = C.returns;
    }

-- a name that gets no new value
renewed_outside : (xs : List Name) (s : Terms) (n : Name) → (Contains xs n → ⊥)
    → (renewed xs s).bindings n ≡ s.bindings n
renewed_outside [] s n out = refl
renewed_outside (x ∷ xs) s n out =
    renewed_outside xs (terms (with_value s.kinds) (bound s.bindings x (length s.kinds)) s.version) n
    (λ c. out (member_later x n xs c))
    ∙ bound_away s.bindings x (length s.kinds) n
    (λ e. out (subst (λ y. Contains (x ∷ xs) y) (sym e) (member_first x xs)))

pub loop_takes : (P : Program) (home : Procedure) (m : Interpretation) (K : List Kind) (V : List ℕ) (at : ℕ → ℕ) (N : ℕ)
    (c : path.Check) (R : Name → Type 0) (n : ℕ) (ps : List path.PathStep) (s : Terms)
    → IsLocal P home m K V at N c R (path.while_step n) ps s
    → StepLeads P home (path.while_step n) (state_before P home m V at c (path.while_step n) ps s)
    (state_after P home m V at c (path.while_step n) ps s)
loop_takes P home m K V at N c R n ps s I =
    let proc = path.while_step n in
    let (l, is) = I.prepared in
    let xs = variable_names home in
    let f = l.invariant in
    let zs = filter (some_assigns l.body) xs in
    let u = walked f s in
    let mid : Terms = with_assigned l xs s in
    let st = store_under at (here P home (proc ∷ ps) c s) in
    let st' = store_under at (here P home ps c (step_walked P home proc s)) in
    let claims : AreTrue m (step_formulas K s.version (loop_parts (Some l) xs s)) =
    subst (λ o. AreTrue m (step_formulas K s.version (loop_parts o xs s))) is I.claims in
    let all : Within (walked f mid).kinds K = subst (λ o. Within (loop_walked o xs s).kinds K) is I.within in
    let few : Within u.kinds K = λ i k e. all i k ((walked_grows f mid).kinds i k (assigned_within l xs s i k e)) in
    let S : Sound K V st (heap_of m V s.version) u =
    subst (λ o. Sound K V st (heap_of m V s.version) (invariant_walked o s)) is
    (sound_used P home m K V at N c R proc ps s I (subst (λ o. Within (invariant_walked o s).kinds K) (sym is) few)) in
    let S' : Sound K V st' (heap_of m V (s.version + 1)) (walked f mid) =
    subst (λ o. Sound K V st' (heap_of m V (s.version + 1)) (loop_walked o xs s)) is
    (sound_after P home m K V at N c R proc ps s I (prepared_version P home R proc s I.prepared)) in
    let r : Replaced f st (heap_of m V s.version) (Meaning f st') (heap_of m V (s.version + 1)) =
    replaced m K V at N I.ground f f st st' s mid I.before I.after (assigned_version l xs s) S S' claims in
    let ns = names (in_assertion f) in
    let own : AssertionIn f ns = formula_in f ns (λ o c. member_map (λ (q : Occ). q.name) (in_assertion f) o c) in
    let known : AllBound mid ns =
    λ x c. (let o = occurrence_of (in_assertion f) x c in
    renewed_known zs (moved_on u) x (inr (subst (λ y. Knows u.bindings y) o.2 (formula_known f s o.0 o.1)))) in
    let keep : (walked f mid).bindings ≡ mid.bindings = walk_keeps f ns mid own known in
    let stays : (y : Name) → (SomeAssigns l.body y → ⊥)
    → (step_walked P home proc s).bindings y ≡ (step_used home proc s).bindings y = λ y out.
    subst (λ o. (loop_walked o xs s).bindings y ≡ (invariant_walked o s).bindings y) (sym is)
    (ap (λ (b : Bindings). b y) keep
    ∙ renewed_outside zs (moved_on u) y (λ there. out (listed_assigned xs l y there))) in (
      l,
      is,
      record {
        replaced = r;
        kept = λ y out. ap (value_under at) (sym (term_stays P home proc ps c s y (stays y out)));
      },
    )

-- the parameters' values
pub parameter_values : (m : Interpretation) (K : List Kind) (V : List ℕ) (at : ℕ → ℕ) (N : ℕ) → AreGround m K V at N
    → (b : Bindings) (ns : List Name) (ts vs : List ℕ) → Distinct ns → length ts ≡ length ns
    → map (slice_get V) ts ≡ map Some vs
    → ((n : Name) → Contains ns n → b n ≡ all_bound unbound ns ts n) → map (store_under at b) ns ≡ vs
parameter_values m K V at N G b ns ts vs D count e same =
    store_values at b (all_bound unbound ns ts) ns ts
    (λ n t f. elim (name_or ns n) [
      | inl there ↦ same n there ∙ f
      | inr out ↦ let none : all_bound unbound ns ts n ≡ None = bound_outside unbound ns ts n out in absurd cc
    ]) (bound_terms unbound ns ts D count) ∙ all_at m K V at N G ts vs e

-- the results' terms have their values
result_terms : (W : List ℕ) (inside : Store) (t : Terms) (rs : List Name) → Gives W inside t.bindings
    → ((r : Name) → Contains rs r → Knows t.bindings r)
    → map (slice_get W) (map (λ r. term_of r t) rs) ≡ map Some (map inside rs)
result_terms W inside t [] G known = refl
result_terms W inside t (r ∷ rs) G known =
    let k = known r (member_first r rs) in
    cons_options (slice_get W (term_of r t)) (Some (inside r)) (map (slice_get W) (map (λ n. term_of n t) rs))
    (map Some (map inside rs))
    (ap (λ o. slice_get W (unwrap_or o 0)) k.1 ∙ G r k.0 k.1)
    (result_terms W inside t rs G (λ n c. known n (member_later r n rs c)))

pub call_takes : (P : Program) (home : Procedure) (m : Interpretation) (K : List Kind) (V : List ℕ) (at : ℕ → ℕ) (N : ℕ)
    (c : path.Check) (R : Name → Type 0) (ys : List Occ) (n : ℕ) (es : List Expr) (ps : List path.PathStep) (s : Terms)
    → IsLocal P home m K V at N c R (path.call_step ys n es) ps s
    → StepLeads P home (path.call_step ys n es) (state_before P home m V at c (path.call_step ys n es) ps s)
    (state_after P home m V at c (path.call_step ys n es) ps s)
call_takes P home m K V at N c R ys n es ps s I =
    let proc = path.call_step ys n es in
    let fit = I.prepared.1 in
    let q = fit.entry.callee in
    let G = I.ground in
    let i = s.version in
    let found = fit.entry.at in
    let member = numbered P.procedures n q found in
    let own : HasOwnNames q = own_names P I.typed q member in
    let apart = parameters_and_results P I.typed q member in
    let T = exprs_used es s in
    let ts = exprs_terms es T in
    let version : T.version ≡ i = (exprs_grow es s).version in
    let r : Terms = rebound T (bound_inside q ts) in
    let u : Terms = walked q.needs r in
    let mid : Terms = with_results q r in
    let after : Terms = each_walked q.gives mid in
    let st = store_under at (here P home (proc ∷ ps) c s) in
    let inside : Store = store_under at after.bindings in
    let claims : AreTrue m (part_formulas K i (under q.needs r) (each_under q.gives mid)) =
    subst (λ o. AreTrue m (step_formulas K i (call_parts o ts T))) found I.claims in
    let all : Within after.kinds K = subst (λ o. Within (call_walked o (names ys) ts T).kinds K) found I.within in
    let some : Within u.kinds K =
    λ j k e. all j k ((each_grows q.gives mid).kinds j k (renewed_within (results_of q) (moved_on u) j k e)) in
    let few : Within T.kinds K = λ j k e. all j k (call_within q r j k e) in
    let S : Sound K V st (heap_of m V i) T = sound_used P home m K V at N c R proc ps s I few in
    let (vs, gives) = exprs_result R st (heap_of m V i) es I.prepared.0 I.ready in
    let args : map (slice_get V) ts ≡ map Some vs = exprs_values K V st (heap_of m V i) es vs s S gives in
    let count : length ts ≡ length (parameters_of q) = length-map es (λ e. expr_term e T) ∙ fit.entry.arguments in
    let A : AllBound r (parameters_of q) = λ x there. all_known unbound (parameters_of q) ts count x (inl there) in
    let keep : u.bindings ≡ r.bindings = walk_keeps q.needs (parameters_of q) r own.needs_in A in
    let B : AllBound mid (parameters_of q ++ results_of q) =
    λ x there. renewed_known (results_of q) (moved_on u) x
    (elim (Contains-append_cases (parameters_of q) (results_of q) x there) [
      | inl here' ↦ inr (let a = A x here' in (a.0, ap (λ (b : Bindings). b x) keep ∙ a.1))
      | inr here' ↦ inl here'
    ]) in
    let keep' : after.bindings ≡ mid.bindings =
    each_keeps q.gives (parameters_of q ++ results_of q) mid own.gives_in B in
    let same : (n : Name) → Contains (parameters_of q) n → after.bindings n ≡ all_bound unbound (parameters_of q) ts n =
    λ n there.
    ap (λ (b : Bindings). b n) keep'
    ∙ renewed_outside (results_of q) (moved_on u) n
    (λ other. results_are_not_parameters P I.typed q member n there other) ∙ ap (λ (b : Bindings). b n) keep in
    let params : map inside (parameters_of q) ≡ vs =
    parameter_values m K V at N G after.bindings (parameters_of q) ts vs apart.0 count args same in
    let before : T.version < N = subst (λ j. j < N) (sym version) I.before in
    let next' : T.version + 1 < N = subst (λ j. j + 1 < N) (sym version) I.after in
    let first : Sound K V inside (heap_of m V T.version) u =
    inside_before K V (heap_of m V T.version) q ts vs T inside own.needs_in args params G.null some
    (G.next T.version before) in
    let bounded : IsBounded after = results_bounded q r (inside_bounded q es s I.bounded) in
    let last : Sound K V inside (heap_of m V (T.version + 1)) after =
    inside_after K V (heap_of m V (T.version + 1)) q ts vs T inside own.needs_in own.gives_in args params G.null all
    (G.next (T.version + 1) next')
    (λ n j there e. let e' = (each_grows q.gives mid).bindings n j e in
    G.listed j (still_below after.kinds K j all (bounded.below n j e'))
    ∙ ap Some (sym (value_is at after.bindings n j e'))) in
    let version' : mid.version ≡ T.version + 1 =
    renewed_version (results_of q) (moved_on u) ∙ ap (λ j. j + 1) (walked_grows q.needs r).version in
    let (v, chosen, one) = one_part m K i (under q.needs r) (each_under q.gives mid) claims in
    let (g, t, is, W) = alternative_of q.gives mid v chosen in
    let claims' : AreTrue m (part_formulas K T.version (under q.needs r) (under g t ∷ [])) =
    subst (λ j. AreTrue m (part_formulas K j (under q.needs r) (under g t ∷ []))) (sym version)
    (subst (λ w. AreTrue m (part_formulas K i (under q.needs r) (w ∷ []))) is one) in
    let done =
    replaced m K V at N G q.needs g inside inside r t before next' (W.first.version ∙ version') first
    (alternative_sound K V inside (heap_of m V (T.version + 1)) q.gives mid g t W last) claims' in
    let done' : Replaced q.needs inside (heap_of m V i) (MeetsOneOf q.gives inside) (heap_of m V (i + 1)) =
    subst (λ j. Replaced q.needs inside (heap_of m V j) (MeetsOneOf q.gives inside) (heap_of m V (j + 1))) version
    (met_one q.needs inside (heap_of m V T.version) q.gives g inside (heap_of m V (T.version + 1)) W.member done) in
    let rs = map (λ x. term_of x after) (results_of q) in
    let known : (x : Name) → Contains (results_of q) x → Knows after.bindings x =
    λ x there. (let k = renewed_known (results_of q) (moved_on u) x (inl there) in
    (k.0, (each_grows q.gives mid).bindings x k.0 k.1)) in
    let targets =
    step_gets P home m K V at N c proc ps s G (names ys) rs (map inside (results_of q))
    (ap (λ o. (call_walked o (names ys) ts T).bindings) found) fit.distinct
    (length-map (results_of q) (λ x. term_of x after) ∙ sym fit.targets)
    (result_terms V inside after (results_of q) last.bound known) in
    (q, vs, found, gives, record { inside = inside; arguments = params; targets = targets; replaced = done' })
