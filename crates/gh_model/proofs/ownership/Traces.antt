-- The heaps of a counterexample are owned over the values of the terms.
use Rattle.std.specs.Prelude.{◌≡◌, ℕ, ◌+◌, List, [], ◌∷◌, ◌++◌, length, slice_get, Option, Some, None, Contains}
use Rattle.std.specs.FinMap.{get}
use Rattle.std.proofs.Common.{refl, sym, ◌∙◌, ap, subst, inl, inr}
use Rattle.gh_ast.specs.declared.Occ.{Occ}
use Rattle.gh_ast.specs.declared.Expr.{Expr}
use Rattle.gh_ast.specs.Plain.{Assertion, Procedure, Program}
use Rattle.gh_ast.specs.Programs.{Name, names, parameters_of, results_of, variable_names}
use Rattle.gh_ast.specs.Names.{AssertionIn}
use Rattle.gh_ast.specs.Rules.{IsTyped}
use Rattle.gh_ast.proofs.Lists.{member_cases, only_member}
use Rattle.gh_ast.proofs.TypedPrograms.{needs_are_parameters, gives_are_contract}
use Rattle.gh_assert.specs.Heaps.{Heap, IsProper}
use Rattle.gh_assert.specs.Meaning.{Store, Meaning}
use Rattle.gh_assert.specs.Walks.{succ}
use Rattle.gh_assert.specs.Ownership.{Owned}
use Rattle.gh_assert.specs.Reading.{HasNames}
use Rattle.gh_assert.proofs.Cells.{get_put, succ_at}
use Rattle.gh_assert.proofs.Kept.{footprints_are_owned, footprints_come_and_go}
use Rattle.gh_assert.proofs.Proper.{met_are_proper}
use Rattle.gh_path.specs.Graphs as path
use Rattle.gh_path.specs.Terms.{Kind, next, Bindings, Terms, used, expr_used, exprs_used, exprs_terms, walked}
use Rattle.gh_path.specs.Terms.{each_walked, moved_on, rebound, with_value, bound_inside, answered_inside, call_walked}
use Rattle.gh_path.specs.Terms.{loop_walked, entry_walked, invariant_walked, check_walked, step_walked, steps_walked}
use Rattle.gh_path.specs.Terms.{no_terms, followed}
use Rattle.gh_symb.specs.Symbolic.{under, call_parts, check_used, term_step, term_steps, step_used, first_use}
use Rattle.gh_symb.specs.Symbolic.{used_first, either_term, state_bindings, begins, symbolic_of}
use Rattle.gh_trace.specs.Traces.{State, Replaced, StepLeads, IsTrace}
use Rattle.gh_trace.specs.Laws.{HasOwnNames}
use Rattle.gh_trace.proofs.Proper.{step_proper}
use Rattle.gh_model.specs.TermValues.{path_version, HasStateValues, HasCellValues, HasResultValues, HaveValues}
use Rattle.gh_model.specs.TraceLaws.{TracesAreOwned}
use Rattle.gh_model.proofs.terms.Extension.{Within, Grows, stays, onto, value_within, bound_same, used_grows}
use Rattle.gh_model.proofs.terms.Extension.{visited_grows, expr_grows, exprs_grow, walked_grows, each_grows}
use Rattle.gh_model.proofs.terms.Denotation.{Sound, before, listed, variable_named, cell_named, formula_named}
use Rattle.gh_model.proofs.terms.Denotation.{expr_value, exprs_values}
use Rattle.gh_model.proofs.terms.Callees.{with_results, with_assigned, assigned_within, renewed_within, renewed_version}
use Rattle.gh_model.proofs.terms.Callees.{inside_before, inside_after}
use Rattle.gh_model.proofs.terms.Bounds.{loop_version}
use Rattle.gh_model.proofs.terms.Alternatives.{all_of_members, walked_there, alternative_sound, one_met}
use Rattle.gh_model.proofs.ownership.Updates.{not_null, owned_freed, owned_made, owned_written}
use Rattle.gh_path.proofs.ListLemmas.{member as numbered}
use Rattle.gh_model.proofs.paths.Ways.{its_path}
use Rattle.gh_model.proofs.paths.Accesses.{accesses, IsReady, AreReady, start_ready}

-- steps and checks add terms
chain : (a b c : List Kind) → Within a b → Within b c → Within a c
chain a b c f g i k e = g i k (f i k e)

inside_within : (p : Procedure) (ys : List Name) (b : Bindings) (s : Terms)
    → Within s.kinds (answered_inside p ys b s).kinds
inside_within p ys b s i k e =
    (each_grows p.gives (with_results p s)).kinds i k
    (renewed_within (results_of p) (moved_on (walked p.needs s)) i k ((walked_grows p.needs s).kinds i k e))

pub call_within : (o : Option Procedure) (ys : List Name) (ts : List ℕ) (s : Terms)
    → Within s.kinds (call_walked o ys ts s).kinds
call_within None ys ts s = λ i k e. e
call_within (Some p) ys ts s = inside_within p ys s.bindings (rebound s (bound_inside p ts))

loop_within : (o : Option path.While) (xs : List Name) (s : Terms) → Within s.kinds (loop_walked o xs s).kinds
loop_within None xs s = λ i k e. e
loop_within (Some l) xs s =
    λ i k e. (walked_grows l.invariant (with_assigned l xs s)).kinds i k
    (assigned_within l xs s i k ((walked_grows l.invariant s).kinds i k e))

pub step_within : (P : Program) (home : Procedure) (proc : path.PathStep) (s : Terms)
    → Within s.kinds (step_walked P home proc s).kinds
step_within P home (path.access_step o) s = (visited_grows o.name s).kinds
step_within P home (path.assume_step l e r) s = (onto (expr_grows l s) (expr_grows r (expr_used l s))).kinds
step_within P home (path.set_step x e) s = (expr_grows e s).kinds
step_within P home (path.new_step x) s =
    chain s.kinds (with_value s.kinds) (with_value (with_value s.kinds)) (value_within s.kinds)
    (value_within (with_value s.kinds))
step_within P home (path.write_step x e) s = (onto (used_grows x.name s) (expr_grows e (used x.name s))).kinds
step_within P home (path.free_step x) s = (used_grows x.name s).kinds
step_within P home (path.call_step ys n es) s =
    chain s.kinds (exprs_used es s).kinds (step_walked P home (path.call_step ys n es) s).kinds (exprs_grow es s).kinds
    (call_within (slice_get P.procedures n) (names ys) (exprs_terms es (exprs_used es s)) (exprs_used es s))
step_within P home (path.while_step n) s = loop_within (slice_get (path.loops_of home) n) (variable_names home) s
step_within P home (path.return_step es) s = (exprs_grow es s).kinds

pub steps_within : (P : Program) (home : Procedure) (ps : List path.PathStep) (s : Terms)
    → Within s.kinds (steps_walked P home ps s).kinds
steps_within P home [] s = λ i k e. e
steps_within P home (proc ∷ ps) s =
    chain s.kinds (step_walked P home proc s).kinds (steps_walked P home (proc ∷ ps) s).kinds
    (step_within P home proc s) (steps_within P home ps (step_walked P home proc s))

pub entry_within : (o : Option Procedure) (ts : List ℕ) (s : Terms) → Within s.kinds (entry_walked o ts s).kinds
entry_within None ts s = λ i k e. e
entry_within (Some p) ts s = (walked_grows p.needs (rebound s (bound_inside p ts))).kinds

invariant_within : (o : Option path.While) (s : Terms) → Within s.kinds (invariant_walked o s).kinds
invariant_within None s = λ i k e. e
invariant_within (Some l) s = (walked_grows l.invariant s).kinds

-- terms that a check uses are listed after it
pub check_used_within : (P : Program) (home : Procedure) (c : path.Check) (s : Terms)
    → Within (check_used home c s).kinds (check_walked P home c s).kinds
check_used_within P home (path.access o) s = λ i k e. e
check_used_within P home (path.callee_entry at n es) s =
    entry_within (slice_get P.procedures n) (exprs_terms es (exprs_used es s)) (exprs_used es s)
check_used_within P home (path.loop_entry at n) s = λ i k e. e
check_used_within P home (path.return_check at) s = λ i k e. e
check_used_within P home (path.loop_end at n) s = λ i k e. e

pub check_within : (P : Program) (home : Procedure) (c : path.Check) (s : Terms)
    → Within s.kinds (check_walked P home c s).kinds
check_within P home (path.access o) s = (used_grows o.name s).kinds
check_within P home (path.callee_entry at n es) s =
    let T = exprs_used es s in
    chain s.kinds T.kinds (check_walked P home (path.callee_entry at n es) s).kinds (exprs_grow es s).kinds
    (entry_within (slice_get P.procedures n) (exprs_terms es T) T)
check_within P home (path.loop_entry at n) s = invariant_within (slice_get (path.loops_of home) n) s
check_within P home (path.return_check at) s = (each_grows home.gives s).kinds
check_within P home (path.loop_end at n) s = invariant_within (slice_get (path.loops_of home) n) s

pub invariant_grows : (o : Option path.While) (s : Terms) → Grows s (invariant_walked o s)
invariant_grows None s = stays s
invariant_grows (Some l) s = walked_grows l.invariant s

pub used_step_grows : (home : Procedure) (p : path.PathStep) (s : Terms) → Grows s (step_used home p s)
used_step_grows home (path.access_step o) s = used_grows o.name s
used_step_grows home (path.assume_step l e r) s = onto (expr_grows l s) (expr_grows r (expr_used l s))
used_step_grows home (path.set_step x e) s = expr_grows e s
used_step_grows home (path.new_step x) s = stays s
used_step_grows home (path.write_step x e) s = onto (used_grows x.name s) (expr_grows e (used x.name s))
used_step_grows home (path.free_step x) s = used_grows x.name s
used_step_grows home (path.call_step ys n es) s = exprs_grow es s
used_step_grows home (path.while_step n) s = invariant_grows (slice_get (path.loops_of home) n) s
used_step_grows home (path.return_step es) s = exprs_grow es s

-- the version after a step that a trace takes
inside_version : (p : Procedure) (ys : List Name) (b : Bindings) (s : Terms)
    → (answered_inside p ys b s).version ≡ s.version + 1
inside_version p ys b s =
    (each_grows p.gives (with_results p s)).version ∙ renewed_version (results_of p) (moved_on (walked p.needs s))
    ∙ ap (λ i. i + 1) (walked_grows p.needs s).version

call_version : (o : Option Procedure) (p : Procedure) → o ≡ Some p → (ys : List Name) (ts : List ℕ) (s : Terms)
    → (call_walked o ys ts s).version ≡ s.version + 1
call_version o p e ys ts s =
    ap (λ q. (call_walked q ys ts s).version) e ∙ inside_version p ys s.bindings (rebound s (bound_inside p ts))

pub step_version : (P : Program) (home : Procedure) (proc : path.PathStep) (s : Terms) (x y : State)
    → StepLeads P home proc x y → (step_walked P home proc s).version ≡ path_version proc s.version
step_version P home (path.access_step o) s x y t = (visited_grows o.name s).version
step_version P home (path.assume_step l e r) s x y t = (onto (expr_grows l s) (expr_grows r (expr_used l s))).version
step_version P home (path.set_step z e) s x y t = (expr_grows e s).version
step_version P home (path.new_step z) s x y t = refl
step_version P home (path.write_step z e) s x y t =
    ap (λ i. i + 1) (onto (used_grows z.name s) (expr_grows e (used z.name s))).version
step_version P home (path.free_step z) s x y t = ap (λ i. i + 1) (used_grows z.name s).version
step_version P home (path.call_step ys n es) s x y t =
    call_version (slice_get P.procedures n) t.0 t.2 (names ys) (exprs_terms es (exprs_used es s)) (exprs_used es s)
    ∙ ap (λ i. i + 1) (exprs_grow es s).version
step_version P home (path.while_step n) s x y t =
    let xs = variable_names home in
    ap (λ o. (loop_walked o xs s).version) t.1 ∙ loop_version t.0 xs s
step_version P home (path.return_step es) s x y t = (exprs_grow es s).version

-- the terms of variables at a state
abbrev pub here : Program → Procedure → List path.PathStep → path.Check → Terms → Bindings
here P home ps c s = λ y. either_term (s.bindings y) (first_use P home ps c s y)

pub own_term : (P : Program) (home : Procedure) (ps : List path.PathStep) (c : path.Check) (s : Terms) (y : Name)
    (t : ℕ) → s.bindings y ≡ Some t → here P home ps c s y ≡ Some t
own_term P home ps c s y t e = ap (λ o. either_term o (first_use P home ps c s y)) e

pub used_term : (P : Program) (home : Procedure) (proc : path.PathStep) (ps : List path.PathStep) (c : path.Check)
    (s : Terms) (y : Name) (t : ℕ) → (step_used home proc s).bindings y ≡ Some t
    → here P home (proc ∷ ps) c s y ≡ Some t
used_term P home proc ps c s y t e = by_binding (s.bindings y) refl
  where
    by_binding : (o : Option ℕ) → s.bindings y ≡ o
        → either_term (s.bindings y) (first_use P home (proc ∷ ps) c s y) ≡ Some t
    by_binding (Some u) f =
        ap (λ o. either_term o (first_use P home (proc ∷ ps) c s y)) f
        ∙ sym ((used_step_grows home proc s).bindings y u f) ∙ e
    by_binding None f =
        ap (λ o. either_term o (first_use P home (proc ∷ ps) c s y)) f
        ∙ ap (λ o. used_first o ((step_walked P home proc s).bindings y)
        (first_use P home ps c (step_walked P home proc s) y)) e

-- terms whose bindings are those of a state
pub sound_from : (K : List Kind) (V : List ℕ) (i : ℕ) (b : Bindings) (x : State) (T : Terms) → slice_get V 0 ≡ Some 0
    → HasStateValues K V i b x → T.version ≡ i → Within T.kinds K
    → ((y : Name) (t : ℕ) → T.bindings y ≡ Some t → b y ≡ Some t) → Sound K V x.store x.heap T
sound_from K V i b x T null H v w B = record {
  null = null;
  kinds = w;
  next = λ t u n e. H.next t u n (e ∙ ap (λ j. Some (next j u)) v);
  bound = λ y t e. H.bound y t (B y t e);
}

-- all that is known of a step and of the states before and after it
pub record IsStep (P : Program) (home : Procedure) (K : List Kind) (V : List ℕ) (c : path.Check) (proc : path.PathStep)
    (ps : List path.PathStep) (s : Terms) (x y : State) : Type 0 where
  pub own_names : (q : Procedure) → Contains P.procedures q → HasOwnNames q
  pub null : slice_get V 0 ≡ Some 0
  pub within : Within (step_walked P home proc s).kinds K
  pub values : HasStateValues K V s.version (here P home (proc ∷ ps) c s) x
  pub cells : HasCellValues V (term_step P home proc s) y
  pub results : HasResultValues P V proc (term_step P home proc s) y
  pub after : HasStateValues K V (path_version proc s.version) (here P home ps c (step_walked P home proc s)) y
  pub takes : StepLeads P home proc x y
  pub proper : IsProper x.heap
  pub owned : Owned V x.heap

-- the terms before a step, and those after it
pub sound_used : (P : Program) (home : Procedure) (K : List Kind) (V : List ℕ) (c : path.Check) (proc : path.PathStep)
    (ps : List path.PathStep) (s : Terms) (x y : State) → IsStep P home K V c proc ps s x y
    → Within (step_used home proc s).kinds K → Sound K V x.store x.heap (step_used home proc s)
sound_used P home K V c proc ps s x y I w =
    sound_from K V s.version (here P home (proc ∷ ps) c s) x (step_used home proc s) I.null I.values
    (used_step_grows home proc s).version w (used_term P home proc ps c s)

pub sound_after : (P : Program) (home : Procedure) (K : List Kind) (V : List ℕ) (c : path.Check) (proc : path.PathStep)
    (ps : List path.PathStep) (s : Terms) (x y : State) → IsStep P home K V c proc ps s x y
    → Sound K V y.store y.heap (step_walked P home proc s)
sound_after P home K V c proc ps s x y I =
    sound_from K V (path_version proc s.version) (here P home ps c (step_walked P home proc s)) y
    (step_walked P home proc s) I.null I.after (step_version P home proc s x y I.takes) I.within
    (own_term P home ps c (step_walked P home proc s))

pub one_given : (a l : ℕ) → a ∷ [] ≡ l ∷ [] → a ≡ l
one_given a l e = cc

pub same_number : (a b : ℕ) → Some a ≡ Some b → a ≡ b
same_number a b e = cc

made_owned : (P : Program) (home : Procedure) (K : List Kind) (V : List ℕ) (c : path.Check) (o : Occ)
    (ps : List path.PathStep) (s : Terms) (x y : State) → IsStep P home K V c (path.new_step o) ps s x y
    → Owned V y.heap
made_owned P home K V c o ps s x y I =
    let (l, v, some, free, gets, heap) = I.takes in
    let (l', v', el, ev, at) = I.cells in
    let S = sound_after P home K V c (path.new_step o) ps s x y I in
    let placed : slice_get V (length s.kinds) ≡ Some (y.store o.name) =
    S.bound o.name (length s.kinds) (bound_same s.bindings o.name (length s.kinds)) in
    let same : l' ≡ l = same_number l' l (sym el ∙ placed ∙ ap Some (one_given (y.store o.name) l gets.given)) in
    let content : v' ≡ v =
    same_number v' v (sym at ∙ ap (get y.heap) same ∙ ap (λ h. get h l) heap ∙ get_put x.heap l v) in
    subst (Owned V) (sym heap)
    (owned_made V x.heap l v some free (subst (Contains V) same (listed V (length s.kinds) l' el))
    (subst (Contains V) content (listed V (length s.kinds + 1) v' ev)) I.owned)

-- an access that comes right before
abbrev Accessed : List ℕ → Option Name → State → Type 0
Accessed V o x = (n : Name) → o ≡ Some n → Contains V (succ x.heap (x.store n))

old_named : (V : List ℕ) (o : Option Name) (x : State) (n : Name) (w : ℕ) → Accessed V o x → o ≡ Some n
    → get x.heap (x.store n) ≡ Some w → Contains V w
old_named V o x n w A r e = subst (Contains V) (succ_at x.heap (x.store n) w e) (A n r)

written_owned : (P : Program) (home : Procedure) (K : List Kind) (V : List ℕ) (c : path.Check) (o : Occ) (e : Expr)
    (ps : List path.PathStep) (s : Terms) (x y : State) (last : Option Name)
    → IsStep P home K V c (path.write_step o e) ps s x y → Accessed V last x → last ≡ Some o.name → Owned V y.heap
written_owned P home K V c o e ps s x y last I A r =
    let (v, gives, (w, at), to) = I.takes in
    let T = expr_used e (used o.name s) in
    let S : Sound K V x.store x.heap T = sound_used P home K V c (path.write_step o e) ps s x y I I.within in
    let a : Contains V (x.store o.name) =
    variable_named K V x.store x.heap o.name s
    (before K V x.store x.heap (used o.name s) T (expr_grows e (used o.name s)) S) in
    let new : Contains V v = listed V _ v (expr_value K V x.store x.heap e (used o.name s) T v (stays T) S gives) in
    subst (λ (z : State). Owned V z.heap) (sym to)
    (owned_written V x.heap (x.store o.name) w v (not_null x.heap (x.store o.name) w I.proper at) at a
    (old_named V last x o.name w A r at) new I.owned)

freed_owned : (P : Program) (home : Procedure) (K : List Kind) (V : List ℕ) (c : path.Check) (o : Occ)
    (ps : List path.PathStep) (s : Terms) (x y : State) (last : Option Name)
    → IsStep P home K V c (path.free_step o) ps s x y → Accessed V last x → last ≡ Some o.name → Owned V y.heap
freed_owned P home K V c o ps s x y last I A r =
    let ((w, at), to) = I.takes in
    let S : Sound K V x.store x.heap (used o.name s) = sound_used P home K V c (path.free_step o) ps s x y I I.within in
    let a : Contains V (x.store o.name) = variable_named K V x.store x.heap o.name s S in
    subst (λ (z : State). Owned V z.heap) (sym to)
    (owned_freed V x.heap (x.store o.name) w (not_null x.heap (x.store o.name) w I.proper at) at a
    (old_named V last x o.name w A r at) I.owned)

-- a footprint goes, and another comes
replaced_owned : (V : List ℕ) (f : Assertion) (st : Store) (h : Heap) (g : Assertion) (tt' : Store) (k : Heap)
    → Replaced f st h (Meaning g tt') k → HasNames f st h V → HasNames g tt' k V → Owned V h → Owned V k
replaced_owned V f st h g t k R n m own =
    (footprints_come_and_go V k R.other R.frame t g R.joins m R.meets).1
    ((footprints_come_and_go V h R.part R.frame st f R.splits n R.met).0 own)

called_owned : (P : Program) (home : Procedure) (K : List Kind) (V : List ℕ) (c : path.Check) (ys : List Occ) (n : ℕ)
    (es : List Expr) (ps : List path.PathStep) (s : Terms) (x y : State)
    → IsStep P home K V c (path.call_step ys n es) ps s x y → Owned V y.heap
called_owned P home K V c ys n es ps s x y I =
    let (proc, vs, found, give, C) = I.takes in
    let T = exprs_used es s in
    let ts = exprs_terms es T in
    let own = I.own_names proc (numbered P.procedures n proc found) in
    let mid = with_results proc (rebound T (bound_inside proc ts)) in
    let all : Within (each_walked proc.gives mid).kinds K =
    subst (λ o. Within (call_walked o (names ys) ts T).kinds K) found I.within in
    let some : Within (walked proc.needs (rebound T (bound_inside proc ts))).kinds K =
    λ i k e. all i k ((each_grows proc.gives mid).kinds i k
    (renewed_within (results_of proc) (moved_on (walked proc.needs (rebound T (bound_inside proc ts)))) i k e)) in
    let few : Within T.kinds K =
    λ i k e. some i k ((walked_grows proc.needs (rebound T (bound_inside proc ts))).kinds i k e) in
    let S : Sound K V x.store x.heap T = sound_used P home K V c (path.call_step ys n es) ps s x y I few in
    let values = exprs_values K V x.store x.heap es vs s S give in
    let R : HasResultValues P V (path.call_step ys n es) (call_parts (Some proc) ts T) y =
    subst (λ o. HasResultValues P V (path.call_step ys n es) (call_parts o ts T) y) found I.results in
    let version : T.version ≡ s.version = (exprs_grow es s).version in
    let first =
    inside_before K V x.heap proc ts vs T C.inside own.needs_in values C.arguments I.null some
    (λ t u v e. I.values.next t u v (e ∙ ap (λ i. Some (next i u)) version)) in
    let (g, there, R') = one_met proc.needs C.inside x.heap proc.gives C.inside y.heap C.replaced in
    let (t, W) = walked_there proc.gives mid g there in
    let results : (r : Name) (j : ℕ) → Contains (results_of proc) r → mid.bindings r ≡ Some j
    → slice_get V j ≡ Some (C.inside r) =
    λ r j c e. R proc C.inside found (sym C.targets.given) (under g t) W.told r j c
    ((walked_grows g t).bindings r j (W.first.bindings r j e)) in
    let last =
    inside_after K V y.heap proc ts vs T C.inside own.needs_in own.gives_in values C.arguments I.null all
    (λ t u v e. I.after.next t u v (e ∙ ap (λ i. Some (next (i + 1) u)) version)) results in
    replaced_owned V proc.needs C.inside x.heap g C.inside y.heap R'
    (formula_named K V C.inside x.heap proc.needs (rebound T (bound_inside proc ts)) first)
    (formula_named K V C.inside y.heap g t (alternative_sound K V C.inside y.heap proc.gives mid g t W last))
    I.owned

-- the terms before a loop, and those after it
pub loop_sound : (P : Program) (home : Procedure) (K : List Kind) (V : List ℕ) (c : path.Check) (n : ℕ) (l : path.While)
    (ps : List path.PathStep) (s : Terms) (x y : State) → slice_get (path.loops_of home) n ≡ Some l
    → IsStep P home K V c (path.while_step n) ps s x y
    → Sound K V x.store x.heap (walked l.invariant s)
    × Sound K V y.store y.heap (walked l.invariant (with_assigned l (variable_names home) s))
loop_sound P home K V c n l ps s x y is I =
    let xs = variable_names home in
    let mid = with_assigned l xs s in
    let all : Within (walked l.invariant mid).kinds K = subst (λ o. Within (loop_walked o xs s).kinds K) is I.within in
    let few : Within (walked l.invariant s).kinds K =
    λ i k e. all i k ((walked_grows l.invariant mid).kinds i k (assigned_within l xs s i k e)) in
    let before' =
    sound_used P home K V c (path.while_step n) ps s x y I
    (subst (λ o. Within (invariant_walked o s).kinds K) (sym is) few) in
    let after' = sound_after P home K V c (path.while_step n) ps s x y I in (
      subst (λ o. Sound K V x.store x.heap (invariant_walked o s)) is before',
      subst (λ o. Sound K V y.store y.heap (loop_walked o xs s)) is after',
    )

looped_owned : (P : Program) (home : Procedure) (K : List Kind) (V : List ℕ) (c : path.Check) (n : ℕ)
    (ps : List path.PathStep) (s : Terms) (x y : State) → IsStep P home K V c (path.while_step n) ps s x y
    → Owned V y.heap
looped_owned P home K V c n ps s x y I =
    let (l, is, A) = I.takes in
    let S = loop_sound P home K V c n l ps s x y is I in
    replaced_owned V l.invariant x.store x.heap l.invariant y.store y.heap A.replaced
    (formula_named K V x.store x.heap l.invariant s S.0)
    (formula_named K V y.store y.heap l.invariant (with_assigned l (variable_names home) s) S.1)
    I.owned

step_owned : (P : Program) (home : Procedure) (K : List Kind) (V : List ℕ) (c : path.Check) (proc : path.PathStep)
    (ps : List path.PathStep) (s : Terms) (x y : State) (last : Option Name) → IsStep P home K V c proc ps s x y
    → Accessed V last x → IsReady last proc → Owned V y.heap
step_owned P home K V c (path.access_step o) ps s x y last I A r =
    subst (λ (z : State). Owned V z.heap) (sym I.takes.1) I.owned
step_owned P home K V c (path.assume_step l e r') ps s x y last I A r =
    subst (λ (z : State). Owned V z.heap) (sym I.takes.1) I.owned
step_owned P home K V c (path.set_step o e) ps s x y last I A r = subst (Owned V) (sym I.takes.3) I.owned
step_owned P home K V c (path.new_step o) ps s x y last I A r = made_owned P home K V c o ps s x y I
step_owned P home K V c (path.write_step o e) ps s x y last I A r = written_owned P home K V c o e ps s x y last I A r
step_owned P home K V c (path.free_step o) ps s x y last I A r = freed_owned P home K V c o ps s x y last I A r
step_owned P home K V c (path.call_step ys n es) ps s x y last I A r = called_owned P home K V c ys n es ps s x y I
step_owned P home K V c (path.while_step n) ps s x y last I A r = looped_owned P home K V c n ps s x y I
step_owned P home K V c (path.return_step es) ps s x y last I A r = subst (Owned V) (sym I.takes.3) I.owned

same_name : (n m : Name) → Some n ≡ Some m → n ≡ m
same_name n m e = cc

step_accessed : (P : Program) (home : Procedure) (K : List Kind) (V : List ℕ) (c : path.Check) (proc : path.PathStep)
    (ps : List path.PathStep) (s : Terms) (x y : State) → IsStep P home K V c proc ps s x y
    → Accessed V (accesses proc) y
step_accessed P home K V c (path.access_step o) ps s x y I n e =
    let S : Sound K V y.store y.heap (followed o.name (used o.name s)) =
    sound_after P home K V c (path.access_step o) ps s x y I in
    let named = cell_named K V y.store y.heap o.name s S in
    subst (λ m. Contains V (succ y.heap (y.store m))) (same_name o.name n e) named.1
step_accessed P home K V c (path.assume_step l e' r) ps s x y I n e = absurd cc
step_accessed P home K V c (path.set_step o e') ps s x y I n e = absurd cc
step_accessed P home K V c (path.new_step o) ps s x y I n e = absurd cc
step_accessed P home K V c (path.write_step o e') ps s x y I n e = absurd cc
step_accessed P home K V c (path.free_step o) ps s x y I n e = absurd cc
step_accessed P home K V c (path.call_step ys m es) ps s x y I n e = absurd cc
step_accessed P home K V c (path.while_step m) ps s x y I n e = absurd cc
step_accessed P home K V c (path.return_step es) ps s x y I n e = absurd cc

-- what is said of the first of the states
pub first_values : (P : Program) (home : Procedure) (K : List Kind) (V : List ℕ) (c : path.Check)
    (ps : List path.PathStep) (s : Terms) (i : ℕ) (x : State) (ys : List State)
    → HaveValues P K V ps (term_steps P home ps s) (state_bindings P home ps c s) i x ys
    → HasStateValues K V i (here P home ps c s) x
first_values P home K V c [] s i x ys H = H
first_values P home K V c (proc ∷ ps) s i x [] H = absurd H
first_values P home K V c (proc ∷ ps) s i x (y ∷ ys) H = H.0

owned_along : (P : Program) (home : Procedure) (K : List Kind) (V : List ℕ) (c : path.Check)
    → ((q : Procedure) → Contains P.procedures q → HasOwnNames q) → slice_get V 0 ≡ Some 0
    → (ps : List path.PathStep) (s : Terms) (last : Option Name) (x : State) (ys : List State)
    → Within (steps_walked P home ps s).kinds K
    → HaveValues P K V ps (term_steps P home ps s) (state_bindings P home ps c s) s.version x ys
    → IsTrace P home x ps ys → IsProper x.heap → AreReady last ps → Accessed V last x → Owned V x.heap
    → (z : State) → Contains (x ∷ ys) z → Owned V z.heap
owned_along P home K V c N null [] s last x [] w H T proper r A own z there =
    subst (λ (u : State). Owned V u.heap) (sym (only_member x z there)) own
owned_along P home K V c N null [] s last x (y ∷ ys) w H T proper r A own z there = absurd T
owned_along P home K V c N null (proc ∷ ps) s last x [] w H T proper r A own z there = absurd T
owned_along P home K V c N null (proc ∷ ps) s last x (y ∷ ys) w H T proper r A own z there =
    let t = step_walked P home proc s in
    let I : IsStep P home K V c proc ps s x y = record {
      own_names = N;
      null = null;
      within = chain t.kinds (steps_walked P home ps t).kinds K (steps_within P home ps t) w;
      values = H.0;
      cells = H.1;
      results = H.2;
      after = first_values P home K V c ps t (path_version proc s.version) y ys H.3;
      takes = T.0;
      proper = proper;
      owned = own;
    } in
    let rest : HaveValues P K V ps (term_steps P home ps t) (state_bindings P home ps c t) t.version y ys =
    subst (λ i. HaveValues P K V ps (term_steps P home ps t) (state_bindings P home ps c t) i y ys)
    (sym (step_version P home proc s x y T.0)) H.3 in
    elim (member_cases x (y ∷ ys) z there) [
      | inl same ↦ subst (λ (u : State). Owned V u.heap) same own
      | inr later ↦ owned_along P home K V c N null ps t (accesses proc) y ys w rest T.1
          (step_proper P home proc x y T.0 proper) r.1 (step_accessed P home K V c proc ps s x y I)
          (step_owned P home K V c proc ps s x y last I A r.0) z later
    ]

pub own_names : (P : Program) → IsTyped P → (q : Procedure) → Contains P.procedures q → HasOwnNames q
own_names P typed q q' = record {
  needs_in = needs_are_parameters P typed q q';
  gives_in =
      all_of_members (λ f. AssertionIn f (parameters_of q ++ results_of q)) q.gives (gives_are_contract P typed q q');
}

pub traces_are_owned : TracesAreOwned
traces_are_owned P proc c x ys V typed is of C values =
    let K = (symbolic_of P proc c).terms in
    let f = path.meets_at proc c.start in
    let ps = c.way.steps in
    let k = c.way.check in
    let s = begins proc c.start in
    let w : Within (steps_walked P proc ps s).kinds K = check_within P proc k (steps_walked P proc ps s) in
    let version : s.version ≡ 0 = (walked_grows f no_terms).version in
    let first = first_values P proc K V k ps s 0 x ys values.along in
    let S : Sound K V x.store x.heap s =
    sound_from K V 0 (here P proc ps k s) x s values.null first version
    (chain s.kinds (steps_walked P proc ps s).kinds K (steps_within P proc ps s) w) (own_term P proc ps k s) in
    let own : Owned V x.heap =
    footprints_are_owned V x.heap x.heap x.store f (λ q v e. e) (formula_named K V x.store x.heap f no_terms S)
    C.begins in
    owned_along P proc K V k (own_names P typed) values.null ps s None x ys w
    (subst (λ i. HaveValues P K V ps (term_steps P proc ps s) (state_bindings P proc ps k s) i x ys) (sym version)
    values.along)
    C.leads (met_are_proper f x.store x.heap C.begins) (start_ready P proc c.start ps k (its_path P proc c is of))
    (λ n e. absurd cc) own
