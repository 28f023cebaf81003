-- The steps of a built trace, but for calls and loops.
use Rattle.std.specs.Prelude.{◌≡◌, ◌≢◌, ◌↔◌, ℕ, ◌+◌, ◌<◌, List, [], ◌∷◌, length, map, slice_get, Option, Some, None}
use Rattle.std.specs.Prelude.{Bool, true, false, not, cond, ◌==◌, IsTrue, Contains}
use Rattle.std.specs.FinMap.{get, insert, remove}
use Rattle.std.specs.Str.{bytes_eq}
use Rattle.std.proofs.Common.{refl, sym, ◌∙◌, ap, subst, inl, inr, arith}
use Rattle.std.proofs.lemmas.Bool.{cases_eq, eqb-true, eq-eqb}
use Rattle.std.proofs.lemmas.List.{length-map}
use Rattle.std.proofs.lemmas.List.Elements.{All-head}
use Rattle.std.proofs.lemmas.Slice.Eq.{bytes_eq-Decides}
use Rattle.gh_base.specs.declared.atom.Term.{Term}
use Rattle.gh_base.specs.declared.atom.Atom.TheVariants.{Alloc}
use Rattle.gh_base.specs.Meaning.{Interpretation}
use Rattle.gh_base.specs.Atoms.{term}
use Rattle.gh_ast.specs.declared.Occ.{Occ}
use Rattle.gh_ast.specs.declared.Operand.TheVariants.{Var}
use Rattle.gh_ast.specs.declared.Expr.{Expr}
use Rattle.gh_ast.specs.declared.Expr.TheVariants.{Plain, Read}
use Rattle.gh_ast.specs.Plain.{Procedure, Program}
use Rattle.gh_ast.specs.Programs.{Name, names, results_of, variable_names}
use Rattle.gh_ast.specs.Rules.{IsTyped}
use Rattle.gh_ast.proofs.Lists.{member_first, member_later, no_member, cons_both, one_value}
use Rattle.gh_assert.specs.Heaps.{Heap}
use Rattle.gh_assert.specs.Meaning.{Store, value, agrees}
use Rattle.gh_assert.specs.Values.{result, compared as outcome_of, Give, Gets}
use Rattle.gh_assert.specs.Walks.{Allocated}
use Rattle.gh_assert.proofs.Cells.{by_look_ups, get_put, get_beside}
use Rattle.gh_assert.proofs.Unique.{get_removed, get_kept}
use Rattle.gh_path.specs.Graphs as path
use Rattle.gh_path.specs.Terms.{Kind, with_value, Bindings, bound, all_bound, Terms, used, term_of, expr_used}
use Rattle.gh_path.specs.Terms.{expr_term, exprs_used, exprs_terms, walked, moved_on, bound_inside, call_walked}
use Rattle.gh_path.specs.Terms.{loop_walked, step_walked, rebound}
use Rattle.gh_grass.specs.Claims.{equality}
use Rattle.gh_grass.specs.Footprints.{compared}
use Rattle.gh_grass.specs.Truth.{truth, AreTrue}
use Rattle.gh_symb.specs.Symbolic.{term_step, step_used, first_use, used_first, either_term}
use Rattle.gh_symb.specs.Formulas.{allocated, step_formulas}
use Rattle.gh_trace.specs.Traces.{State, StepLeads}
use Rattle.gh_model.specs.Structures.{HeapStructure}
use Rattle.gh_model.specs.BuiltHeaps.{built}
use Rattle.gh_model.specs.Versions.{version_of}
use Rattle.gh_model.specs.Transitions.{IsPut, IsFreed, StepsByNew}
use Rattle.gh_model.specs.TermValues.{path_version}
use Rattle.gh_model.specs.BuiltTraces.{value_under, store_under}
use Rattle.gh_model.proofs.terms.Extension.{Within, stays, onto, bound_same, used_grows, visited_grows, expr_grows}
use Rattle.gh_model.proofs.terms.Extension.{exprs_grow, walked_grows, each_grows}
use Rattle.gh_model.proofs.terms.Denotation.{Sound, listed, expr_value, exprs_values}
use Rattle.gh_model.proofs.terms.Callees.{with_results, renewed_version}
use Rattle.gh_model.proofs.heaps.BuiltHeap.{models_are_built}
use Rattle.gh_model.proofs.heaps.HeapSteps.{writes_are_built, news_are_built, frees_are_built}
use Rattle.gh_model.proofs.reading.Assertions.{equal_is}
use Rattle.gh_model.proofs.reading.StepFormulas.{writes_are_preserved, news_are_preserved, frees_are_preserved}
use Rattle.gh_model.proofs.soundness.Interpretation.{value_at, value_of, there_at, within_list}
use Rattle.gh_model.proofs.ownership.Traces.{used_step_grows, here, own_term, used_term}
use Rattle.gh_model.proofs.paths.Typing.{ExprReady, ExprsReady, Distinct, IsPrepared}
use Rattle.gh_model.proofs.terms.Bounds.{IsBounded, longer, follow_within, still_below, step_bounded, used_step_bounded}
use Rattle.gh_model.proofs.terms.Bounds.{loop_version}
use Rattle.gh_model.proofs.locality.BuiltVersions.{T, AreGround, state_sound, value_is}
use Rattle.gh_model.proofs.reading.Classes.{same_test}

not_both : (o : Option ℕ) (u : ℕ) → o ≡ Some u → o ≡ None → ⊥
not_both o u e f = absurd cc

-- a variable that a step doesn't assign keeps its term
pub term_stays : (P : Program) (home : Procedure) (proc : path.PathStep) (ps : List path.PathStep) (c : path.Check)
    (s : Terms) (y : Name) → (step_walked P home proc s).bindings y ≡ (step_used home proc s).bindings y
    → here P home (proc ∷ ps) c s y ≡ here P home ps c (step_walked P home proc s) y
term_stays P home proc ps c s y same = by_used ((step_used home proc s).bindings y) refl
  where
    by_own : (o : Option ℕ) → s.bindings y ≡ o → (step_used home proc s).bindings y ≡ None
        → here P home (proc ∷ ps) c s y ≡ here P home ps c (step_walked P home proc s) y
    by_own (Some u) g f =
        absurd (not_both ((step_used home proc s).bindings y) u ((used_step_grows home proc s).bindings y u g) f)
    by_own None g f =
        ap (λ o. either_term o (first_use P home (proc ∷ ps) c s y)) g
        ∙ ap (λ o. used_first o ((step_walked P home proc s).bindings y)
        (first_use P home ps c (step_walked P home proc s) y)) f
        ∙ ap (λ o. used_first None o (first_use P home ps c (step_walked P home proc s) y)) (same ∙ f)
        ∙ sym (ap (λ o. either_term o (first_use P home ps c (step_walked P home proc s) y)) (same ∙ f))

    by_used : (o : Option ℕ) → (step_used home proc s).bindings y ≡ o
        → here P home (proc ∷ ps) c s y ≡ here P home ps c (step_walked P home proc s) y
    by_used (Some u) f =
        used_term P home proc ps c s y u f ∙ sym (own_term P home ps c (step_walked P home proc s) y u (same ∙ f))
    by_used None f = by_own (s.bindings y) refl f

-- the heap of a version
abbrev pub heap_of : Interpretation → List ℕ → ℕ → Heap
heap_of m V i = built V (version_of m i)

-- the built heap of a version, and the values of the variables' terms
abbrev pub state_with : List ℕ → (ℕ → ℕ) → HeapStructure → Bindings → State
state_with V at M b = record { store = store_under at b; heap = built V M }

-- all that is known of a step
pub record IsLocal (P : Program) (home : Procedure) (m : Interpretation) (K : List Kind) (V : List ℕ) (at : ℕ → ℕ)
    (N : ℕ) (c : path.Check) (R : Name → Type 0) (proc : path.PathStep) (ps : List path.PathStep)
    (s : Terms) : Type 0 where
  pub typed : IsTyped P
  pub ground : AreGround m K V at N
  pub prepared : IsPrepared P home R proc
  pub ready : (n : Name) → R n → Allocated (heap_of m V s.version) (store_under at (here P home (proc ∷ ps) c s) n)
  pub claims : AreTrue m (step_formulas K s.version (term_step P home proc s))
  pub within : Within (step_walked P home proc s).kinds K
  pub bounded : IsBounded s
  pub before : s.version < N
  pub after : path_version proc s.version < N

-- the states before and after it
abbrev pub state_before : Program → Procedure → Interpretation → List ℕ → (ℕ → ℕ) → path.Check → path.PathStep
    → List path.PathStep → Terms → State
state_before P home m V at c proc ps s = state_with V at (version_of m s.version) (here P home (proc ∷ ps) c s)

abbrev pub state_after : Program → Procedure → Interpretation → List ℕ → (ℕ → ℕ) → path.Check → path.PathStep
    → List path.PathStep → Terms → State
state_after P home m V at c proc ps s =
    state_with V at (version_of m (path_version proc s.version)) (here P home ps c (step_walked P home proc s))

pub sound_used : (P : Program) (home : Procedure) (m : Interpretation) (K : List Kind) (V : List ℕ) (at : ℕ → ℕ) (N : ℕ)
    (c : path.Check) (R : Name → Type 0) (proc : path.PathStep) (ps : List path.PathStep) (s : Terms)
    → IsLocal P home m K V at N c R proc ps s → Within (step_used home proc s).kinds K
    → Sound K V (store_under at (here P home (proc ∷ ps) c s)) (heap_of m V s.version) (step_used home proc s)
sound_used P home m K V at N c R proc ps s I w =
    state_sound m K V at N I.ground s.version I.before (here P home (proc ∷ ps) c s) (step_used home proc s)
    (used_step_grows home proc s).version w (used_step_bounded home proc s I.bounded) (used_term P home proc ps c s)

pub sound_after : (P : Program) (home : Procedure) (m : Interpretation) (K : List Kind) (V : List ℕ) (at : ℕ → ℕ)
    (N : ℕ) (c : path.Check) (R : Name → Type 0) (proc : path.PathStep) (ps : List path.PathStep) (s : Terms)
    → IsLocal P home m K V at N c R proc ps s → (step_walked P home proc s).version ≡ path_version proc s.version
    → Sound K V (store_under at (here P home ps c (step_walked P home proc s)))
    (heap_of m V (path_version proc s.version)) (step_walked P home proc s)
sound_after P home m K V at N c R proc ps s I version =
    state_sound m K V at N I.ground (path_version proc s.version) I.after (here P home ps c (step_walked P home proc s))
    (step_walked P home proc s) version I.within (step_bounded P home proc s I.bounded)
    (own_term P home ps c (step_walked P home proc s))

-- a term's value
pub at_is : (m : Interpretation) (K : List Kind) (V : List ℕ) (at : ℕ → ℕ) (N : ℕ) → AreGround m K V at N → (t v : ℕ)
    → slice_get V t ≡ Some v → at t ≡ v
at_is m K V at N G t v e =
    one_value (slice_get V t) (at t) v (G.listed t (omega (arith, within_list V t v e, G.count))) e

pub below_count : (m : Interpretation) (K : List Kind) (V : List ℕ) (at : ℕ → ℕ) (N : ℕ) → AreGround m K V at N
    → (t v : ℕ) → slice_get V t ≡ Some v → t < length K
below_count m K V at N G t v e = omega (arith, within_list V t v e, G.count)

pub alloc_is : (m : Interpretation) (K : List Kind) (V : List ℕ) (at : ℕ → ℕ) (N : ℕ) → AreGround m K V at N → (i : ℕ)
    → i < N → (t v : ℕ) → slice_get V t ≡ Some v → IsTrue (m.table (Alloc i (term t))) ↔ Allocated (heap_of m V i) v
alloc_is m K V at N G i l t v e =
    let M = version_of m i in
    let S = (G.homomorphism i l).alloc t (below_count m K V at N G t v e) in
    let B = (models_are_built V M (G.model i l)).represents.alloc v (listed V t v e) in
    let is : value_at V t ≡ v = value_of V t v e in
    (λ a. B.0 (subst (λ u. IsTrue (M.alloc u)) is (S.0 a)), λ a. S.1 (subst (λ u. IsTrue (M.alloc u)) (sym is) (B.1 a)))

-- the values of expressions
pub expr_result : (R : Name → Type 0) (st : Store) (h : Heap) (e : Expr) → ExprReady R e
    → ((n : Name) → R n → Allocated h (st n)) → (v : ℕ) × (result st h e ≡ Some v)
expr_result R st h (Plain o) r f = (value st o, refl)
expr_result R st h (Read o) r f = f o.name r

pub exprs_result : (R : Name → Type 0) (st : Store) (h : Heap) (es : List Expr) → ExprsReady R es
    → ((n : Name) → R n → Allocated h (st n)) → (vs : List ℕ) × Give st h es vs
exprs_result R st h [] r f = ([], refl)
exprs_result R st h (e ∷ es) r f =
    let v = expr_result R st h e r.0 f in
    let vs = exprs_result R st h es r.1 f in
    (v.0 ∷ vs.0, cons_both (result st h e) v.0 (map (result st h) es) vs.0 v.1 vs.1)

abbrev pub make : Store → Heap → State
make s h = record { store = s; heap = h }

pub same_state : (s t : Store) (h k : Heap) → ((n : Name) → s n ≡ t n) → h ≡ k → make s h ≡ make t k
same_state s t h k f e = ap (λ u. make u h) (λ i. λ n. f n i) ∙ ap (make t) e

-- names that are bound anew
pub bound_away : (b : Bindings) (x : Name) (t : ℕ) (n : Name) → n ≢ x → bound b x t n ≡ b n
bound_away b x t n away = by_test (bytes_eq n x) refl
  where
    by_test : (c : Bool) → bytes_eq n x ≡ c → cond c (Some t) (b n) ≡ b n
    by_test true e = absurd (away ((bytes_eq-Decides n x).0 e))
    by_test false e = refl

pub bound_outside : (b : Bindings) (xs : List Name) (ts : List ℕ) (n : Name) → (Contains xs n → ⊥)
    → all_bound b xs ts n ≡ b n
bound_outside b [] ts n out = refl
bound_outside b (x ∷ xs) [] n out = refl
bound_outside b (x ∷ xs) (t ∷ ts) n out =
    bound_outside (bound b x t) xs ts n (λ c. out (member_later x n xs c))
    ∙ bound_away b x t n (λ e. out (subst (λ y. Contains (x ∷ xs) y) (sym e) (member_first x xs)))

pub cons_options : (o p : Option ℕ) (os ps : List (Option ℕ)) → o ≡ p → os ≡ ps → o ∷ os ≡ p ∷ ps
cons_options o p os ps e f = ap (λ a. a ∷ os) e ∙ ap (λ as'. p ∷ as') f

cons_numbers : (o p : ℕ) (os ps : List ℕ) → o ≡ p → os ≡ ps → o ∷ os ≡ p ∷ ps
cons_numbers o p os ps e f = ap (λ a. a ∷ os) e ∙ ap (λ as'. p ∷ as') f

pub bound_terms : (b : Bindings) (xs : List Name) (ts : List ℕ) → Distinct xs → length ts ≡ length xs
    → map (all_bound b xs ts) xs ≡ map Some ts
bound_terms b [] [] D e = refl
bound_terms b [] (t ∷ ts) D e = absurd (omega arith)
bound_terms b (x ∷ xs) [] D e = absurd (omega arith)
bound_terms b (x ∷ xs) (t ∷ ts) D e =
    cons_options (all_bound (bound b x t) xs ts x) (Some t) (map (all_bound (bound b x t) xs ts) xs) (map Some ts)
    (bound_outside (bound b x t) xs ts x D.0 ∙ bound_same b x t)
    (bound_terms (bound b x t) xs ts D.1 (omega (arith, e)))

options_both : (a b : Option ℕ) (as' bs : List (Option ℕ)) → a ∷ as' ≡ b ∷ bs → (a ≡ b) × (as' ≡ bs)
options_both a b as' bs e = (cc, cc)

-- names that have terms, in a store of the terms' values
pub store_values : (at : ℕ → ℕ) (b d : Bindings) (xs : List Name) (ts : List ℕ)
    → ((n : Name) (t : ℕ) → d n ≡ Some t → b n ≡ Some t) → map d xs ≡ map Some ts
    → map (store_under at b) xs ≡ map at ts
store_values at b d [] [] f e = refl
store_values at b d [] (t ∷ ts) f e = absurd cc
store_values at b d (x ∷ xs) [] f e = absurd cc
store_values at b d (x ∷ xs) (t ∷ ts) f e =
    let both = options_both (d x) (Some t) (map d xs) (map Some ts) e in
    cons_numbers (store_under at b x) (at t) (map (store_under at b) xs) (map at ts) (value_is at b x t (f x t both.0))
    (store_values at b d xs ts f both.1)

pub all_at : (m : Interpretation) (K : List Kind) (V : List ℕ) (at : ℕ → ℕ) (N : ℕ) → AreGround m K V at N
    → (ts vs : List ℕ) → map (slice_get V) ts ≡ map Some vs → map at ts ≡ vs
all_at m K V at N G [] [] e = refl
all_at m K V at N G [] (v ∷ vs) e = absurd cc
all_at m K V at N G (t ∷ ts) [] e = absurd cc
all_at m K V at N G (t ∷ ts) (v ∷ vs) e =
    let both = options_both (slice_get V t) (Some v) (map (slice_get V) ts) (map Some vs) e in
    cons_numbers (at t) v (map at ts) vs (at_is m K V at N G t v both.0) (all_at m K V at N G ts vs both.1)

-- a step that assigns some variables
pub step_gets : (P : Program) (home : Procedure) (m : Interpretation) (K : List Kind) (V : List ℕ) (at : ℕ → ℕ) (N : ℕ)
    (c : path.Check) (proc : path.PathStep) (ps : List path.PathStep) (s : Terms) → AreGround m K V at N
    → (ys : List Name) (ts vs : List ℕ)
    → (step_walked P home proc s).bindings ≡ all_bound (step_used home proc s).bindings ys ts → Distinct ys
    → length ts ≡ length ys → map (slice_get V) ts ≡ map Some vs
    → Gets (store_under at (here P home (proc ∷ ps) c s)) ys vs
    (store_under at (here P home ps c (step_walked P home proc s)))
step_gets P home m K V at N c proc ps s G ys ts vs is D count e =
    let t = step_walked P home proc s in
    let terms : map t.bindings ys ≡ map Some ts =
    ap (λ (b : Bindings). map b ys) is ∙ bound_terms (step_used home proc s).bindings ys ts D count in
    record {
      given =
          store_values at (here P home ps c t) t.bindings ys ts (own_term P home ps c t) terms
          ∙ all_at m K V at N G ts vs e;
      kept = λ y out. ap (value_under at)
          (sym (term_stays P home proc ps c s y
          (ap (λ (b : Bindings). b y) is ∙ bound_outside (step_used home proc s).bindings ys ts y out)));
    }

pub access_takes : (P : Program) (home : Procedure) (m : Interpretation) (K : List Kind) (V : List ℕ) (at : ℕ → ℕ)
    (N : ℕ) (c : path.Check) (R : Name → Type 0) (o : Occ) (ps : List path.PathStep) (s : Terms)
    → IsLocal P home m K V at N c R (path.access_step o) ps s
    → StepLeads P home (path.access_step o) (state_before P home m V at c (path.access_step o) ps s)
    (state_after P home m V at c (path.access_step o) ps s)
access_takes P home m K V at N c R o ps s I =
    let proc = path.access_step o in
    let u = used o.name s in
    let st = store_under at (here P home (proc ∷ ps) c s) in
    let h = heap_of m V s.version in
    let S : Sound K V st h u =
    sound_used P home m K V at N c R proc ps s I (λ i k e. I.within i k (follow_within o.name u i k e)) in
    let there : slice_get V (term_of o.name u) ≡ Some (st o.name) =
    expr_value K V st h (Plain (Var o)) s u (st o.name) (stays u) S refl in
    let said = All-head (T m) (allocated s.version (term (term_of o.name u))) [] I.claims in (
      (alloc_is m K V at N I.ground s.version I.before (term_of o.name u) (st o.name) there).0 said,
      same_state (store_under at (here P home ps c (step_walked P home proc s))) st h h
          (λ n. ap (value_under at) (sym (term_stays P home proc ps c s n refl))) refl,
    )

compared_is : (m : Interpretation) (x y : Term) (e t : Bool) → truth m (equality x y) ≡ t
    → truth m (compared x e y) ≡ agrees e t
compared_is m x y true t is = is
compared_is m x y false t is = ap not is

pub assume_takes : (P : Program) (home : Procedure) (m : Interpretation) (K : List Kind) (V : List ℕ) (at : ℕ → ℕ)
    (N : ℕ) (c : path.Check) (R : Name → Type 0) (l : Expr) (e : Bool) (r : Expr) (ps : List path.PathStep) (s : Terms)
    → IsLocal P home m K V at N c R (path.assume_step l e r) ps s
    → StepLeads P home (path.assume_step l e r) (state_before P home m V at c (path.assume_step l e r) ps s)
    (state_after P home m V at c (path.assume_step l e r) ps s)
assume_takes P home m K V at N c R l e r ps s I =
    let proc = path.assume_step l e r in
    let t = expr_used r (expr_used l s) in
    let i = s.version in
    let st = store_under at (here P home (proc ∷ ps) c s) in
    let h = heap_of m V i in
    let S : Sound K V st h t = sound_used P home m K V at N c R proc ps s I I.within in
    let (u, ru) = expr_result R st h l I.prepared.0 I.ready in
    let (v, rv) = expr_result R st h r I.prepared.1 I.ready in
    let a : slice_get V (expr_term l t) ≡ Some u = expr_value K V st h l s t u (expr_grows r (expr_used l s)) S ru in
    let b : slice_get V (expr_term r t) ≡ Some v = expr_value K V st h r (expr_used l s) t v (stays t) S rv in
    let E =
    equal_is m i (length K) (value_at V) V (version_of m i) (I.ground.homomorphism i I.before) (expr_term l t)
    (expr_term r t) u v
    (below_count m K V at N I.ground (expr_term l t) u a) (below_count m K V at N I.ground (expr_term r t) v b)
    (value_of V (expr_term l t) u a) (value_of V (expr_term r t) v b) in
    let equal : truth m (equality (term (expr_term l t)) (term (expr_term r t))) ≡ (u == v) =
    same_test (truth m (equality (term (expr_term l t)) (term (expr_term r t)))) (u == v) (λ f. eq-eqb u v (E.0 f))
    (λ f. E.1 (eqb-true u v f)) in
    let said : truth m (compared (term (expr_term l t)) e (term (expr_term r t))) ≡ true =
    All-head (T m) (compared (term (expr_term l t)) e (term (expr_term r t))) [] I.claims in
    let is : agrees e (u == v) ≡ true =
    sym (compared_is m (term (expr_term l t)) (term (expr_term r t)) e (u == v) equal) ∙ said in (
      ap (λ w. outcome_of e w (result st h r)) ru ∙ ap (outcome_of e (Some u)) rv ∙ ap Some is,
      same_state (store_under at (here P home ps c (step_walked P home proc s))) st h h
          (λ n. ap (value_under at) (sym (term_stays P home proc ps c s n refl))) refl,
    )

pub set_takes : (P : Program) (home : Procedure) (m : Interpretation) (K : List Kind) (V : List ℕ) (at : ℕ → ℕ) (N : ℕ)
    (c : path.Check) (R : Name → Type 0) (o : Occ) (e : Expr) (ps : List path.PathStep) (s : Terms)
    → IsLocal P home m K V at N c R (path.set_step o e) ps s
    → StepLeads P home (path.set_step o e) (state_before P home m V at c (path.set_step o e) ps s)
    (state_after P home m V at c (path.set_step o e) ps s)
set_takes P home m K V at N c R o e ps s I =
    let proc = path.set_step o e in
    let t = expr_used e s in
    let st = store_under at (here P home (proc ∷ ps) c s) in
    let h = heap_of m V s.version in
    let S : Sound K V st h t = sound_used P home m K V at N c R proc ps s I I.within in
    let (v, rv) = expr_result R st h e I.prepared I.ready in
    let a : slice_get V (expr_term e t) ≡ Some v = expr_value K V st h e s t v (stays t) S rv in (
      v,
      rv,
      step_gets P home m K V at N c proc ps s I.ground (o.name ∷ []) (expr_term e t ∷ []) (v ∷ []) refl
          ((λ n. no_member o.name n), tt) refl (ap (λ w. w ∷ []) a),
      refl,
    )

pub return_takes : (P : Program) (home : Procedure) (m : Interpretation) (K : List Kind) (V : List ℕ) (at : ℕ → ℕ)
    (N : ℕ) (c : path.Check) (R : Name → Type 0) (es : List Expr) (ps : List path.PathStep) (s : Terms)
    → IsLocal P home m K V at N c R (path.return_step es) ps s
    → StepLeads P home (path.return_step es) (state_before P home m V at c (path.return_step es) ps s)
    (state_after P home m V at c (path.return_step es) ps s)
return_takes P home m K V at N c R es ps s I =
    let proc = path.return_step es in
    let t = exprs_used es s in
    let st = store_under at (here P home (proc ∷ ps) c s) in
    let h = heap_of m V s.version in
    let S : Sound K V st h t = sound_used P home m K V at N c R proc ps s I I.within in
    let (vs, rv) = exprs_result R st h es I.prepared.0 I.ready in
    let a : map (slice_get V) (exprs_terms es t) ≡ map Some vs = exprs_values K V st h es vs s S rv in (
      vs,
      rv,
      step_gets P home m K V at N c proc ps s I.ground (results_of home) (exprs_terms es t) vs refl I.prepared.2
          (length-map es (λ e. expr_term e t) ∙ I.prepared.1) a,
      refl,
    )

heap_put : (h k : Heap) (x v : ℕ) → IsPut h k x v → k ≡ insert h x v
heap_put h k x v p = by_look_ups k (insert h x v) (λ q. elim (cases_eq q x) [
  | inl same ↦ ap (get k) same ∙ p.here ∙ sym (ap (get (insert h x v)) same ∙ get_put h x v)
  | inr away ↦ p.elsewhere q away ∙ sym (get_beside h x v q away)
])

heap_freed : (h k : Heap) (x : ℕ) → IsFreed h k x → k ≡ remove h x
heap_freed h k x p = by_look_ups k (remove h x) (λ q. elim (cases_eq q x) [
  | inl same ↦ ap (get k) same ∙ p.here ∙ sym (ap (get (remove h x)) same ∙ get_removed h x)
  | inr away ↦ p.elsewhere q away ∙ sym (get_kept h x q away)
])

pub new_takes : (P : Program) (home : Procedure) (m : Interpretation) (K : List Kind) (V : List ℕ) (at : ℕ → ℕ) (N : ℕ)
    (c : path.Check) (R : Name → Type 0) (o : Occ) (ps : List path.PathStep) (s : Terms)
    → IsLocal P home m K V at N c R (path.new_step o) ps s
    → StepLeads P home (path.new_step o) (state_before P home m V at c (path.new_step o) ps s)
    (state_after P home m V at c (path.new_step o) ps s)
new_takes P home m K V at N c R o ps s I =
    let proc = path.new_step o in
    let i = s.version in
    let n = length K in
    let G = I.ground in
    let l = length s.kinds in
    let M = version_of m i in
    let M' = version_of m (i + 1) in
    let ll : l < n =
    still_below (with_value (with_value s.kinds)) K l I.within
    (omega (arith, longer (with_value s.kinds), longer s.kinds)) in
    let lc : l + 1 < n =
    still_below (with_value (with_value s.kinds)) K (l + 1) I.within
    (omega (arith, longer (with_value s.kinds), longer s.kinds)) in
    let S = G.homomorphism i I.before in
    let said : StepsByNew V M M' (value_at V l) (value_at V (l + 1)) =
    (news_are_preserved m i n (value_at V) V M M' S (G.homomorphism (i + 1) I.after) l (l + 1) ll lc).0 I.claims in
    let put =
    news_are_built V M M' (G.model i I.before) (G.model (i + 1) I.after) (value_at V l) (value_at V (l + 1))
    (S.named l ll) (S.named (l + 1) lc) said in
    let model' = G.model (i + 1) I.after in
    let some : value_at V l ≢ 0 =
    λ z. model'.linked.null (subst (λ u. IsTrue (M'.alloc u)) z
    (model'.linked.row_15 (value_at V l) (value_at V (l + 1)) (S.named l ll) (S.named (l + 1) lc) said.here)) in
    let here' : slice_get V l ≡ Some (value_at V l) = there_at V l (omega (arith, ll, G.count)) in (
      value_at V l,
      value_at V (l + 1),
      some,
      put.0,
      step_gets P home m K V at N c proc ps s G (o.name ∷ []) (l ∷ []) (value_at V l ∷ []) refl
          ((λ e. no_member o.name e), tt) refl (ap (λ w. w ∷ []) here'),
      heap_put (heap_of m V i) (heap_of m V (i + 1)) (value_at V l) (value_at V (l + 1)) put.1,
    )

pub write_takes : (P : Program) (home : Procedure) (m : Interpretation) (K : List Kind) (V : List ℕ) (at : ℕ → ℕ)
    (N : ℕ) (c : path.Check) (R : Name → Type 0) (o : Occ) (e : Expr) (ps : List path.PathStep) (s : Terms)
    → IsLocal P home m K V at N c R (path.write_step o e) ps s
    → StepLeads P home (path.write_step o e) (state_before P home m V at c (path.write_step o e) ps s)
    (state_after P home m V at c (path.write_step o e) ps s)
write_takes P home m K V at N c R o e ps s I =
    let proc = path.write_step o e in
    let i = s.version in
    let n = length K in
    let G = I.ground in
    let M = version_of m i in
    let M' = version_of m (i + 1) in
    let t = expr_used e (used o.name s) in
    let st = store_under at (here P home (proc ∷ ps) c s) in
    let h = heap_of m V i in
    let S : Sound K V st h t = sound_used P home m K V at N c R proc ps s I I.within in
    let (v, rv) = expr_result R st h e I.prepared.0 I.ready in
    let x = term_of o.name t in
    let a : slice_get V x ≡ Some (st o.name) =
    expr_value K V st h (Plain (Var o)) s t (st o.name) (expr_grows e (used o.name s)) S refl in
    let b : slice_get V (expr_term e t) ≡ Some v = expr_value K V st h e (used o.name s) t v (stays t) S rv in
    let lx = below_count m K V at N G x (st o.name) a in
    let le = below_count m K V at N G (expr_term e t) v b in
    let Q = G.homomorphism i I.before in
    let said = (writes_are_preserved m i n (value_at V) V M M' Q (G.homomorphism (i + 1) I.after) x (expr_term e t) lx
    le).0 I.claims in
    let put =
    writes_are_built V M M' (G.model i I.before) (G.model (i + 1) I.after) (value_at V x)
    (value_at V (expr_term e t)) (Q.named x lx) (Q.named (expr_term e t) le) said in
    let put' : IsPut h (heap_of m V (i + 1)) (st o.name) v =
    subst (λ y. IsPut h (heap_of m V (i + 1)) y v) (value_of V x (st o.name) a)
    (subst (IsPut h (heap_of m V (i + 1)) (value_at V x)) (value_of V (expr_term e t) v b) put) in (
      v,
      rv,
      I.ready o.name I.prepared.1,
      same_state (store_under at (here P home ps c (step_walked P home proc s))) st (heap_of m V (i + 1))
          (insert h (st o.name) v) (λ y. ap (value_under at) (sym (term_stays P home proc ps c s y refl)))
          (heap_put h (heap_of m V (i + 1)) (st o.name) v put'),
    )

pub free_takes : (P : Program) (home : Procedure) (m : Interpretation) (K : List Kind) (V : List ℕ) (at : ℕ → ℕ) (N : ℕ)
    (c : path.Check) (R : Name → Type 0) (o : Occ) (ps : List path.PathStep) (s : Terms)
    → IsLocal P home m K V at N c R (path.free_step o) ps s
    → StepLeads P home (path.free_step o) (state_before P home m V at c (path.free_step o) ps s)
    (state_after P home m V at c (path.free_step o) ps s)
free_takes P home m K V at N c R o ps s I =
    let proc = path.free_step o in
    let i = s.version in
    let n = length K in
    let G = I.ground in
    let M = version_of m i in
    let M' = version_of m (i + 1) in
    let t = used o.name s in
    let st = store_under at (here P home (proc ∷ ps) c s) in
    let h = heap_of m V i in
    let S : Sound K V st h t = sound_used P home m K V at N c R proc ps s I I.within in
    let x = term_of o.name t in
    let a : slice_get V x ≡ Some (st o.name) = expr_value K V st h (Plain (Var o)) s t (st o.name) (stays t) S refl in
    let lx = below_count m K V at N G x (st o.name) a in
    let Q = G.homomorphism i I.before in
    let said = (frees_are_preserved m i n (value_at V) V M M' Q (G.homomorphism (i + 1) I.after) x lx).0 I.claims in
    let put =
    frees_are_built V M M' (G.model i I.before) (G.model (i + 1) I.after) (value_at V x) (Q.named x lx) said in
    let put' : IsFreed h (heap_of m V (i + 1)) (st o.name) =
    subst (IsFreed h (heap_of m V (i + 1))) (value_of V x (st o.name) a) put in (
      I.ready o.name I.prepared,
      same_state (store_under at (here P home ps c (step_walked P home proc s))) st (heap_of m V (i + 1))
          (remove h (st o.name)) (λ y. ap (value_under at) (sym (term_stays P home proc ps c s y refl)))
          (heap_freed h (heap_of m V (i + 1)) (st o.name) put'),
    )

-- the version after a step of a path
call_version : (o : Option Procedure) (q : Procedure) → o ≡ Some q → (ys : List Name) (ts : List ℕ) (s : Terms)
    → (call_walked o ys ts s).version ≡ s.version + 1
call_version o q e ys ts s =
    let r = rebound s (bound_inside q ts) in
    ap (λ u. (call_walked u ys ts s).version) e ∙ (each_grows q.gives (with_results q r)).version
    ∙ renewed_version (results_of q) (moved_on (walked q.needs r))
    ∙ ap (λ i. i + 1) (walked_grows q.needs r).version

pub prepared_version : (P : Program) (home : Procedure) (R : Name → Type 0) (proc : path.PathStep) (s : Terms)
    → IsPrepared P home R proc → (step_walked P home proc s).version ≡ path_version proc s.version
prepared_version P home R (path.access_step o) s A = (visited_grows o.name s).version
prepared_version P home R (path.assume_step l e r) s A = (onto (expr_grows l s) (expr_grows r (expr_used l s))).version
prepared_version P home R (path.set_step x e) s A = (expr_grows e s).version
prepared_version P home R (path.new_step x) s A = refl
prepared_version P home R (path.write_step x e) s A =
    ap (λ i. i + 1) (onto (used_grows x.name s) (expr_grows e (used x.name s))).version
prepared_version P home R (path.free_step x) s A = ap (λ i. i + 1) (used_grows x.name s).version
prepared_version P home R (path.call_step ys n es) s A =
    let q = A.1.entry.callee in
    call_version _ q A.1.entry.at (names ys) (exprs_terms es (exprs_used es s)) (exprs_used es s)
    ∙ ap (λ i. i + 1) (exprs_grow es s).version
prepared_version P home R (path.while_step n) s A =
    let xs = variable_names home in
    ap (λ o. (loop_walked o xs s).version) A.1 ∙ loop_version A.0 xs s
prepared_version P home R (path.return_step es) s A = (exprs_grow es s).version
