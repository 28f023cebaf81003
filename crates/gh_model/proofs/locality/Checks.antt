-- In the last state of a built trace the check fails.
use Rattle.std.specs.Prelude.{◌≡◌, ℕ, ◌<◌, List, [], ◌∷◌, length, map, slice_get, Option, Some, None}
use Rattle.gh_model.proofs.terms.Alternatives.{walked_there, alternative_sound, met_none}
use Rattle.std.proofs.Common.{refl, sym, ◌∙◌, ap, subst}
use Rattle.std.proofs.lemmas.List.{length-map}
use Rattle.std.proofs.lemmas.List.Elements.{All-head, All-cons, All-nil}
use Rattle.gh_base.specs.declared.atom.Atom.TheVariants.{Alloc}
use Rattle.gh_base.specs.Meaning.{Interpretation}
use Rattle.gh_base.specs.declared.place.Span.{Span}
use Rattle.gh_base.specs.Atoms.{term}
use Rattle.gh_ast.specs.declared.Occ.{Occ}
use Rattle.gh_ast.specs.declared.Operand.TheVariants.{Var}
use Rattle.gh_ast.specs.declared.Expr.{Expr}
use Rattle.gh_ast.specs.declared.Expr.TheVariants.{Plain}
use Rattle.gh_ast.specs.Plain.{Assertion, Procedure, Program}
use Rattle.gh_ast.specs.Programs.{Name, parameters_of}
use Rattle.gh_ast.specs.Rules.{IsTyped}
use Rattle.gh_assert.specs.Meaning.{Store, Meaning, HasPart}
use Rattle.gh_assert.specs.Walks.{Allocated}
use Rattle.gh_path.specs.Graphs as path
use Rattle.gh_path.specs.Terms.{Kind, Terms, used, term_of, exprs_used, expr_term, exprs_terms, walked, rebound}
use Rattle.gh_path.specs.Terms.{bound_inside, entry_walked, invariant_walked, check_walked}
use Rattle.gh_grass.specs.Claims.{negation_of}
use Rattle.gh_grass.specs.Truth.{truth, AreTrue}
use Rattle.gh_symb.specs.Symbolic.{under, term_check, check_used, needs_under, entered_under, ended_under, either_term}
use Rattle.gh_symb.specs.Symbolic.{each_under}
use Rattle.gh_symb.specs.Formulas.{allocated, meets, meets_whole, check_formulas}
use Rattle.gh_trace.specs.Traces.{Passes}
use Rattle.gh_model.specs.Versions.{version_of}
use Rattle.gh_model.specs.BuiltTraces.{store_under}
use Rattle.gh_model.proofs.terms.Extension.{Within, Grows, stays, used_grows, exprs_grow, walked_grows, each_grows}
use Rattle.gh_model.proofs.terms.Denotation.{Sound, expr_value, exprs_values}
use Rattle.gh_model.proofs.terms.Callees.{inside_before}
use Rattle.gh_model.proofs.ownership.Traces.{here, own_names, invariant_grows}
use Rattle.gh_path.proofs.ListLemmas.{member as numbered}
use Rattle.gh_model.proofs.paths.Typing.{IsCheckPrepared, parameters_and_results}
use Rattle.gh_model.proofs.terms.Bounds.{IsBounded, used_bounded, exprs_bounded, invariant_bounded, each_bounded}
use Rattle.gh_model.proofs.locality.BuiltVersions.{T, AreGround, no_more, state_sound, part_is, whole_is}
use Rattle.gh_model.proofs.locality.Steps.{heap_of, state_with, alloc_is, exprs_result}
use Rattle.gh_model.proofs.locality.Calls.{parameter_values}

-- all that is known of the check, in a state of the last version
pub record IsLast (P : Program) (home : Procedure) (m : Interpretation) (K : List Kind) (V : List ℕ) (at : ℕ → ℕ)
    (N : ℕ) (c : path.Check) (R : Name → Type 0) (s : Terms) : Type 0 where
  pub typed : IsTyped P
  pub ground : AreGround m K V at N
  pub prepared : IsCheckPrepared P home R c
  pub ready : (n : Name) → R n → Allocated (heap_of m V s.version) (store_under at (here P home [] c s) n)
  pub claims : AreTrue m (check_formulas K s.version (term_check P home c s))
  pub within : Within (check_walked P home c s).kinds K
  pub bounded : IsBounded s
  pub before : s.version < N

check_grows : (home : Procedure) (c : path.Check) (s : Terms) → Grows s (check_used home c s)
check_grows home (path.access o) s = used_grows o.name s
check_grows home (path.callee_entry spot n es) s = exprs_grow es s
check_grows home (path.loop_entry spot n) s = invariant_grows (slice_get (path.loops_of home) n) s
check_grows home (path.return_check spot) s = each_grows home.gives s
check_grows home (path.loop_end spot n) s = invariant_grows (slice_get (path.loops_of home) n) s

check_bounded : (home : Procedure) (c : path.Check) (s : Terms) → IsBounded s → IsBounded (check_used home c s)
check_bounded home (path.access o) s B = used_bounded o.name s B
check_bounded home (path.callee_entry spot n es) s B = exprs_bounded es s B
check_bounded home (path.loop_entry spot n) s B = invariant_bounded (slice_get (path.loops_of home) n) s B
check_bounded home (path.return_check spot) s B = each_bounded home.gives s B
check_bounded home (path.loop_end spot n) s B = invariant_bounded (slice_get (path.loops_of home) n) s B

-- the term of a variable that the check uses
checked_term : (P : Program) (home : Procedure) (c : path.Check) (s : Terms) (y : Name) (t : ℕ)
    → (check_used home c s).bindings y ≡ Some t → here P home [] c s y ≡ Some t
checked_term P home c s y t e = by_binding (s.bindings y) refl
  where
    by_binding : (o : Option ℕ) → s.bindings y ≡ o
        → either_term (s.bindings y) ((check_used home c s).bindings y) ≡ Some t
    by_binding (Some u) f =
        ap (λ o. either_term o ((check_used home c s).bindings y)) f ∙ sym ((check_grows home c s).bindings y u f) ∙ e
    by_binding None f = ap (λ o. either_term o ((check_used home c s).bindings y)) f ∙ e

sound_checked : (P : Program) (home : Procedure) (m : Interpretation) (K : List Kind) (V : List ℕ) (at : ℕ → ℕ) (N : ℕ)
    (c : path.Check) (R : Name → Type 0) (s : Terms) → IsLast P home m K V at N c R s
    → Within (check_used home c s).kinds K
    → Sound K V (store_under at (here P home [] c s)) (heap_of m V s.version) (check_used home c s)
sound_checked P home m K V at N c R s I w =
    state_sound m K V at N I.ground s.version I.before (here P home [] c s) (check_used home c s)
    (check_grows home c s).version w (check_bounded home c s I.bounded) (checked_term P home c s)

abbrev state_last : Program → Procedure → Interpretation → List ℕ → (ℕ → ℕ) → path.Check → Terms → Type 0
state_last P home m V at c s = Passes P home c (state_with V at (version_of m s.version) (here P home [] c s))

access_fails : (P : Program) (home : Procedure) (m : Interpretation) (K : List Kind) (V : List ℕ) (at : ℕ → ℕ) (N : ℕ)
    (R : Name → Type 0) (o : Occ) (s : Terms) → IsLast P home m K V at N (path.access o) R s
    → state_last P home m V at (path.access o) s → ⊥
access_fails P home m K V at N R o s I passes =
    let u = used o.name s in
    let st = store_under at (here P home [] (path.access o) s) in
    let S : Sound K V st (heap_of m V s.version) u = sound_checked P home m K V at N (path.access o) R s I I.within in
    let there : slice_get V (term_of o.name u) ≡ Some (st o.name) =
    expr_value K V st (heap_of m V s.version) (Plain (Var o)) s u (st o.name) (stays u) S refl in
    no_more (m.table (Alloc s.version (term (term_of o.name u))))
    (All-head (T m) (negation_of (allocated s.version (term (term_of o.name u)))) [] I.claims)
    ((alloc_is m K V at N I.ground s.version I.before (term_of o.name u) (st o.name) there).1 passes)

whole_fails : (m : Interpretation) (K : List Kind) (V : List ℕ) (at : ℕ → ℕ) (N : ℕ) → AreGround m K V at N
    → (st : Store) (f : Assertion) (s : Terms) → s.version < N → Sound K V st (heap_of m V s.version) (walked f s)
    → AreTrue m (negation_of (meets_whole K (under f s)) ∷ []) → Meaning f st (heap_of m V s.version) → ⊥
whole_fails m K V at N G st f s l S A passes =
    no_more (truth m (meets_whole K (under f s))) (All-head (T m) (negation_of (meets_whole K (under f s))) [] A)
    ((whole_is m K V at N G st f s l S).1 passes)

-- where a loop is entered, and where its body ends
entered_fails : (P : Program) (home : Procedure) (m : Interpretation) (K : List Kind) (V : List ℕ) (at : ℕ → ℕ) (N : ℕ)
    (R : Name → Type 0) (spot : Span) (n : ℕ) (s : Terms) → IsLast P home m K V at N (path.loop_entry spot n) R s
    → state_last P home m V at (path.loop_entry spot n) s → ⊥
entered_fails P home m K V at N R spot n s I passes =
    let (l, is) = I.prepared in
    let f = l.invariant in
    let c = path.loop_entry spot n in
    let st = store_under at (here P home [] c s) in
    let h = heap_of m V s.version in
    let claims : AreTrue m (negation_of (meets K (under f s)) ∷ []) =
    subst (λ o. AreTrue m (check_formulas K s.version (entered_under o s))) is I.claims in
    let S : Sound K V st h (walked f s) =
    subst (λ o. Sound K V st h (invariant_walked o s)) is (sound_checked P home m K V at N c R s I I.within) in
    no_more (truth m (meets K (under f s))) (All-head (T m) (negation_of (meets K (under f s))) [] claims)
    ((part_is m K V at N I.ground st f s I.before S).1 (passes l is))

ended_fails : (P : Program) (home : Procedure) (m : Interpretation) (K : List Kind) (V : List ℕ) (at : ℕ → ℕ) (N : ℕ)
    (R : Name → Type 0) (spot : Span) (n : ℕ) (s : Terms) → IsLast P home m K V at N (path.loop_end spot n) R s
    → state_last P home m V at (path.loop_end spot n) s → ⊥
ended_fails P home m K V at N R spot n s I passes =
    let (l, is) = I.prepared in
    let f = l.invariant in
    let c = path.loop_end spot n in
    let st = store_under at (here P home [] c s) in
    let h = heap_of m V s.version in
    let claims : AreTrue m (negation_of (meets_whole K (under f s)) ∷ []) =
    subst (λ o. AreTrue m (check_formulas K s.version (ended_under o s))) is I.claims in
    let S : Sound K V st h (walked f s) =
    subst (λ o. Sound K V st h (invariant_walked o s)) is (sound_checked P home m K V at N c R s I I.within) in
    whole_fails m K V at N I.ground st f s I.before S claims (passes l is)

entry_fails : (P : Program) (home : Procedure) (m : Interpretation) (K : List Kind) (V : List ℕ) (at : ℕ → ℕ) (N : ℕ)
    (R : Name → Type 0) (spot : Span) (n : ℕ) (es : List Expr) (s : Terms)
    → IsLast P home m K V at N (path.callee_entry spot n es) R s
    → state_last P home m V at (path.callee_entry spot n es) s → ⊥
entry_fails P home m K V at N R spot n es s I passes =
    let c = path.callee_entry spot n es in
    let fit = I.prepared.1 in
    let q = fit.callee in
    let G = I.ground in
    let i = s.version in
    let found = fit.at in
    let member = numbered P.procedures n q found in
    let own = own_names P I.typed q member in
    let apart = parameters_and_results P I.typed q member in
    let t = exprs_used es s in
    let ts = exprs_terms es t in
    let version : t.version ≡ i = (exprs_grow es s).version in
    let r : Terms = rebound t (bound_inside q ts) in
    let st = store_under at (here P home [] c s) in
    let inside : Store = store_under at r.bindings in
    let claims : AreTrue m (negation_of (meets K (under q.needs r)) ∷ []) =
    subst (λ o. AreTrue m (check_formulas K i (needs_under o ts t))) found I.claims in
    let all : Within (walked q.needs r).kinds K = subst (λ o. Within (entry_walked o ts t).kinds K) found I.within in
    let few : Within t.kinds K = λ j k e. all j k ((walked_grows q.needs r).kinds j k e) in
    let S : Sound K V st (heap_of m V i) t = sound_checked P home m K V at N c R s I few in
    let (vs, gives) = exprs_result R st (heap_of m V i) es I.prepared.0 I.ready in
    let args : map (slice_get V) ts ≡ map Some vs = exprs_values K V st (heap_of m V i) es vs s S gives in
    let count : length ts ≡ length (parameters_of q) = length-map es (λ e. expr_term e t) ∙ fit.arguments in
    let params : map inside (parameters_of q) ≡ vs =
    parameter_values m K V at N G r.bindings (parameters_of q) ts vs apart.0 count args (λ n there. refl) in
    let before : t.version < N = subst (λ j. j < N) (sym version) I.before in
    let first : Sound K V inside (heap_of m V t.version) (walked q.needs r) =
    inside_before K V (heap_of m V t.version) q ts vs t inside own.needs_in args params G.null all
    (G.next t.version before) in
    let has : HasPart q.needs inside (heap_of m V t.version) =
    subst (λ j. HasPart q.needs inside (heap_of m V j)) (sym version) (passes q vs inside found gives params) in
    no_more (truth m (meets K (under q.needs r))) (All-head (T m) (negation_of (meets K (under q.needs r))) [] claims)
    ((part_is m K V at N G inside q.needs r before first).1 has)

pub check_fails : (P : Program) (home : Procedure) (m : Interpretation) (K : List Kind) (V : List ℕ) (at : ℕ → ℕ)
    (N : ℕ) (c : path.Check) (R : Name → Type 0) (s : Terms) → IsLast P home m K V at N c R s
    → state_last P home m V at c s → ⊥
check_fails P home m K V at N (path.access o) R s I = access_fails P home m K V at N R o s I
check_fails P home m K V at N (path.callee_entry spot n es) R s I = entry_fails P home m K V at N R spot n es s I
check_fails P home m K V at N (path.loop_entry spot n) R s I = entered_fails P home m K V at N R spot n s I
check_fails P home m K V at N (path.return_check spot) R s I = λ passes.
    let c = path.return_check spot in
    let fs = home.gives in
    let st = store_under at (here P home [] c s) in
    let (f, there, met) = passes in
    let (t, W) = walked_there fs s f there in
    let version : t.version ≡ s.version = W.first.version in
    let S : Sound K V st (heap_of m V s.version) (walked f t) =
    alternative_sound K V st (heap_of m V s.version) fs s f t W
    (sound_checked P home m K V at N c R s I I.within) in
    whole_fails m K V at N I.ground st f t (subst (λ j. j < N) (sym version) I.before)
    (subst (λ j. Sound K V st (heap_of m V j) (walked f t)) (sym version) S)
    (All-cons (T m) (negation_of (meets_whole K (under f t))) []
    (met_none m K s.version (each_under fs s) (under f t) W.told I.claims) (All-nil (T m)))
    (subst (λ j. Meaning f st (heap_of m V j)) (sym version) met)
check_fails P home m K V at N (path.loop_end spot n) R s I = ended_fails P home m K V at N R spot n s I
