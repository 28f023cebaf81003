-- Values for the terms of a step.
use Rattle.std.specs.Prelude.{◌≡◌, ℕ, ◌+◌, List, [], ◌∷◌, ◌++◌, length, map, filter, slice_get, unwrap_or, Option, Some}
use Rattle.std.specs.Prelude.{None, Contains}
use Rattle.std.specs.FinMap.{get}
use Rattle.std.proofs.Common.{refl, sym, ◌∙◌, ap, subst, inl, inr, arith}
use Rattle.std.proofs.lemmas.List.{length-map, length-append}
use Rattle.gh_ast.specs.declared.Occ.{Occ}
use Rattle.gh_ast.specs.declared.Expr.{Expr}
use Rattle.gh_ast.specs.Plain.{Procedure, Program}
use Rattle.gh_ast.specs.Programs.{Name, names, parameters_of, results_of, variable_names}
use Rattle.gh_ast.proofs.Lists.{member_first, member_later, member_cases, no_member, one_value}
use Rattle.gh_ast.proofs.Members.{name_or}
use Rattle.gh_assert.specs.Heaps.{Heap}
use Rattle.gh_assert.specs.Meaning.{Store}
use Rattle.gh_assert.specs.Values.{Gets}
use Rattle.gh_assert.proofs.Cells.{get_put}
use Rattle.gh_path.specs.Graphs as path
use Rattle.gh_path.specs.Terms.{Bindings, unbound, all_bound, Terms, terms, used, term_of, followed, expr_used}
use Rattle.gh_path.specs.Terms.{expr_term, exprs_used, exprs_terms, walked, moved_on, rebound, with_value, some_assigns}
use Rattle.gh_path.specs.Terms.{bound_inside, call_walked, loop_walked, invariant_walked, step_walked, each_walked}
use Rattle.gh_path.specs.Graphs.{IsProcedureAt, IsLoopAt}
use Rattle.gh_symb.specs.Symbolic.{Under, TermStep, call_parts, loop_parts, term_step, step_used}
use Rattle.gh_model.proofs.terms.Alternatives.{alternative_of}
use Rattle.gh_trace.specs.Traces.{State, CallLeads, LoopLeads, StepLeads}
use Rattle.gh_model.specs.TermValues.{HasCellValues, HasResultValues}
use Rattle.gh_model.proofs.terms.Extension.{stays, expr_grows, exprs_grow, walked_grows, each_grows}
use Rattle.gh_model.proofs.terms.Denotation.{expr_value, exprs_values}
use Rattle.gh_model.proofs.terms.Callees.{Gives, Knows, all_give, all_known, renewed_known, with_results, with_assigned}
use Rattle.gh_model.proofs.terms.Callees.{counted}
use Rattle.gh_model.proofs.soundness.WalkValues.{More, front_of, last_of, IsKindValuation, IsValuation, later}
use Rattle.gh_model.proofs.soundness.WalkValues.{value_more, gives_more, used_valued, visited_valued, expr_valued}
use Rattle.gh_model.proofs.soundness.WalkValues.{exprs_valued, walked_valued, GivesBut, renewed_valued, assigned_give}
use Rattle.gh_model.proofs.soundness.WalkValues.{sound_of, each_valued}
use Rattle.gh_path.proofs.LoopVariables.{NamesIn, assigned_listed}

-- values after a step: `u` are the terms once its variables are used, `t` those at its end
pub record StepValues (H : ℕ → Heap) (V : List ℕ) (P : Program) (proc : path.PathStep) (x y : State) (u t : Terms)
    (q : TermStep) : Type 0 where
  pub values : List ℕ
  pub more : More V values
  pub valued : IsValuation H values y.store t
  pub used : Gives values x.store u.bindings
  pub cells : HasCellValues values q y
  pub results : HasResultValues P values proc q y
  pub kept : (n : Name) → t.bindings n ≡ None → y.store n ≡ x.store n

but_given : (V : List ℕ) (st : Store) (xs : List Name) (vs : List ℕ) (st' : Store) (b : Bindings) → Gets st xs vs st'
    → Gives V st b → GivesBut xs V st' b
but_given V st xs vs st' b gets G n t e = elim (name_or xs n) [
  | inl there ↦ inl there
  | inr out ↦ inr (G n t e ∙ ap Some (sym (gets.kept n out)))
]

-- a name with no term isn't among those that got one
not_among : (b : Bindings) (xs : List Name) (ts : List ℕ) (n : Name) → length ts ≡ length xs
    → all_bound b xs ts n ≡ None → Contains xs n → ⊥
not_among b xs ts n e none there = let k = all_known b xs ts e n (inl there) in
    let some : all_bound b xs ts n ≡ Some k.0 = k.1 in absurd cc

-- what variables get by a set, or by a return
record IsAssigned (H : ℕ → Heap) (W : List ℕ) (xs : List Name) (ts : List ℕ) (T : Terms) (x y : State) : Type 0 where
  valued : IsValuation H W y.store (rebound T (all_bound T.bindings xs ts))
  kept : (n : Name) → all_bound T.bindings xs ts n ≡ None → y.store n ≡ x.store n

assign : (H : ℕ → Heap) (W : List ℕ) (xs : List Name) (ts vs : List ℕ) (T : Terms) (x y : State)
    → IsValuation H W x.store T → map (slice_get W) ts ≡ map Some vs → Gets x.store xs vs y.store
    → IsAssigned H W xs ts T x y
assign H W xs ts vs T x y S e gets = record {
  valued = record {
    kinds = S.kinds;
    gives =
        assigned_give W y.store xs T.bindings ts vs e gets.given
        (but_given W x.store xs vs y.store T.bindings gets S.gives);
  };
  kept = λ n none. gets.kept n
      (not_among T.bindings xs ts n (counted W ts vs e ∙ ap length (sym gets.given) ∙ length-map xs y.store) none);
}

one_option : (a b : Option ℕ) → a ≡ b → a ∷ [] ≡ b ∷ []
one_option a b e = ap (λ o. o ∷ []) e

set_values : (H : ℕ → Heap) (V : List ℕ) (P : Program) (home : Procedure) (o : Occ) (e : Expr) (s : Terms) (x y : State)
    → IsValuation H V x.store s → H s.version ≡ x.heap → StepLeads P home (path.set_step o e) x y
    → StepValues H V P (path.set_step o e) x y (expr_used e s) (step_walked P home (path.set_step o e) s)
    (term_step P home (path.set_step o e) s)
set_values H V P home o e s x y S at takes =
    let (v, gives, gets, heap) = takes in
    let T = expr_used e s in
    let E = expr_valued H V x.store e s S in
    let sound = sound_of H E.values x.store x.heap T (ap H (expr_grows e s).version ∙ at) E.valued in
    let term : slice_get E.values (expr_term e T) ≡ Some v =
    expr_value T.kinds E.values x.store x.heap e s T v (stays T) sound gives in
    let A =
    assign H E.values (o.name ∷ []) (expr_term e T ∷ []) (v ∷ []) T x y E.valued
    (one_option (slice_get E.values (expr_term e T)) (Some v) term) gets in
    record {
      values = E.values;
      more = E.more;
      valued = A.valued;
      used = E.valued.gives;
      cells = tt;
      results = tt;
      kept = A.kept;
    }

return_values : (H : ℕ → Heap) (V : List ℕ) (P : Program) (home : Procedure) (es : List Expr) (s : Terms) (x y : State)
    → IsValuation H V x.store s → H s.version ≡ x.heap → StepLeads P home (path.return_step es) x y
    → StepValues H V P (path.return_step es) x y (exprs_used es s) (step_walked P home (path.return_step es) s)
    (term_step P home (path.return_step es) s)
return_values H V P home es s x y S at takes =
    let (vs, give, gets, heap) = takes in
    let T = exprs_used es s in
    let E = exprs_valued H V x.store es s S in
    let sound = sound_of H E.values x.store x.heap T (ap H (exprs_grow es s).version ∙ at) E.valued in
    let A =
    assign H E.values (results_of home) (exprs_terms es T) vs T x y E.valued
    (exprs_values T.kinds E.values x.store x.heap es vs s sound give) gets in
    record {
      values = E.values;
      more = E.more;
      valued = A.valued;
      used = E.valued.gives;
      cells = tt;
      results = tt;
      kept = A.kept;
    }

-- a new cell's place and content
new_values : (H : ℕ → Heap) (V : List ℕ) (P : Program) (home : Procedure) (o : Occ) (s : Terms) (x y : State)
    → IsValuation H V x.store s → StepLeads P home (path.new_step o) x y
    → StepValues H V P (path.new_step o) x y s (step_walked P home (path.new_step o) s)
    (term_step P home (path.new_step o) s)
new_values H V P home o s x y S takes =
    let (l, v, some, free, gets, heap) = takes in
    let U : List ℕ = V ++ l ∷ [] in
    let W : List ℕ = U ++ v ∷ [] in
    let up : More V U = front_of V l in
    let over : More U W = front_of U v in
    let kinds : IsKindValuation H W (with_value (with_value s.kinds)) =
    value_more H U (with_value s.kinds) v (value_more H V s.kinds l S.kinds) in
    let place : slice_get W (length s.kinds) ≡ Some l =
    ap (slice_get W) (sym S.kinds.count) ∙ over (length V) l (last_of V l) in
    let longer : length U ≡ length s.kinds + 1 = rw (length-append V) (omega (arith, S.kinds.count)) in
    let content : slice_get W (length s.kinds + 1) ≡ Some v = ap (slice_get W) (sym longer) ∙ last_of U v in
    let T : Terms = terms (with_value (with_value s.kinds)) s.bindings (s.version + 1) in
    let G : Gives W x.store s.bindings =
    gives_more U W x.store s.bindings over (gives_more V U x.store s.bindings up S.gives) in
    let A =
    assign H W (o.name ∷ []) (length s.kinds ∷ []) (l ∷ []) T x y (record { kinds = kinds; gives = G })
    (one_option (slice_get W (length s.kinds)) (Some l) place) gets in
    record {
      values = W;
      more = λ t n e. over t n (up t n e);
      valued = A.valued;
      used = G;
      cells = (l, v, place, content, ap (λ h. get h l) heap ∙ get_put x.heap l v);
      results = tt;
      kept = A.kept;
    }

-- the values that two stores give
same_at : (f g : Store) (xs : List Name) (r : Name) → map f xs ≡ map g xs → Contains xs r → f r ≡ g r
same_at f g [] r e there = absurd (no_member r there)
same_at f g (x ∷ xs) r e there = elim (member_cases x xs r there) [
  | inl same ↦ let first : f x ≡ g x = cc in ap f (sym same) ∙ first ∙ ap g same
  | inr more ↦ let rest : map f xs ≡ map g xs = cc in same_at f g xs r rest more
]

both_same : (o p : Option ℕ) (os ps : List (Option ℕ)) → o ≡ p → os ≡ ps → o ∷ os ≡ p ∷ ps
both_same o p os ps e f = ap (λ a. a ∷ os) e ∙ ap (λ as'. p ∷ as') f

-- the terms of results have their values
result_terms : (W : List ℕ) (inside : Store) (T : Terms) (rs : List Name) → Gives W inside T.bindings
    → ((r : Name) → Contains rs r → Knows T.bindings r)
    → map (slice_get W) (map (λ r. term_of r T) rs) ≡ map Some (map inside rs)
result_terms W inside T [] G known = refl
result_terms W inside T (r ∷ rs) G known =
    let k = known r (member_first r rs) in
    both_same (slice_get W (term_of r T)) (Some (inside r)) (map (slice_get W) (map (λ n. term_of n T) rs))
    (map Some (map inside rs))
    (ap (λ o. slice_get W (unwrap_or o 0)) k.1 ∙ G r k.0 k.1)
    (result_terms W inside T rs G (λ n c. known n (member_later r n rs c)))

-- a call of a procedure
call_values : (H : ℕ → Heap) (V : List ℕ) (P : Program) (proc : Procedure) (ys : List Occ) (n : ℕ) (es : List Expr)
    (vs : List ℕ) (T : Terms) (x y : State) → IsValuation H V x.store T → H T.version ≡ x.heap
    → map (slice_get V) (exprs_terms es T) ≡ map Some vs
    → IsProcedureAt P n proc → CallLeads proc vs (names ys) x y
    → StepValues H V P (path.call_step ys n es) x y T (call_walked (Some proc) (names ys) (exprs_terms es T) T)
    (call_parts (Some proc) (exprs_terms es T) T)
call_values H V P proc ys n es vs T x y S at args callee C =
    let ts = exprs_terms es T in
    let s : Terms = rebound T (bound_inside proc ts) in
    let start : IsValuation H V C.inside s =
    record {
      kinds = S.kinds;
      gives = all_give V C.inside unbound (parameters_of proc) ts vs args C.arguments (λ n t e. absurd cc);
    } in
    let E = walked_valued H C.inside proc.needs V s start in
    let F =
    renewed_valued H C.inside (results_of proc) E.values (moved_on (walked proc.needs s)) E.valued.kinds
    (λ n t e. inr (E.valued.gives n t e)) in
    let G = each_valued H C.inside proc.gives F.values (with_results proc s) F.valued in
    let after : Terms = each_walked proc.gives (with_results proc s) in
    let more : More V G.values = λ t v e. G.more t v (F.more t v (E.more t v e)) in
    let known : (r : Name) → Contains (results_of proc) r → Knows after.bindings r = λ r c.
    (let k = renewed_known (results_of proc) (moved_on (walked proc.needs s)) r (inl c) in
    (k.0, (each_grows proc.gives (with_results proc s)).bindings r k.0 k.1)) in
    let terms' : map (slice_get G.values) (map (λ r. term_of r after) (results_of proc))
    ≡ map Some (map C.inside (results_of proc)) =
    result_terms G.values C.inside after (results_of proc) G.valued.gives known in
    let outer : Gives G.values x.store T.bindings = gives_more V G.values x.store T.bindings more S.gives in
    let A =
    assign H G.values (names ys) (map (λ r. term_of r after) (results_of proc)) (map C.inside (results_of proc))
    (rebound after T.bindings) x y (record { kinds = G.valued.kinds; gives = outer }) terms' C.targets in
    record {
      values = G.values;
      more = more;
      valued = A.valued;
      used = outer;
      cells = tt;
      results = λ q inside' callee' targets a chosen r t c e.
          let (g, u, is, W) = alternative_of proc.gives (with_results proc s) a chosen in
          let e' : after.bindings r ≡ Some t = W.last.bindings r t (ap (λ (w : Under). w.binding r) (sym is) ∙ e) in
          let same : q ≡ proc = one_value (slice_get P.procedures n) q proc callee' callee in
          let c' : Contains (results_of proc) r = subst (λ (z : Procedure). Contains (results_of z) r) same c in
          let targets' : map inside' (results_of proc) ≡ map y.store (names ys) =
          subst (λ (z : Procedure). map inside' (results_of z) ≡ map y.store (names ys)) same targets in
          G.valued.gives r t e' ∙ ap
          Some (sym (same_at inside' C.inside (results_of proc) r (targets' ∙ C.targets.given) c'));
      kept = A.kept;
    }

called_values : (H : ℕ → Heap) (V : List ℕ) (P : Program) (home : Procedure) (ys : List Occ) (n : ℕ) (es : List Expr)
    (s : Terms) (x y : State) → IsValuation H V x.store s → H s.version ≡ x.heap
    → StepLeads P home (path.call_step ys n es) x y
    → StepValues H V P (path.call_step ys n es) x y (exprs_used es s) (step_walked P home (path.call_step ys n es) s)
    (term_step P home (path.call_step ys n es) s)
called_values H V P home ys n es s x y S at takes =
    let (proc, vs, callee, give, C) = takes in
    let T = exprs_used es s in
    let E = exprs_valued H V x.store es s S in
    let here : H T.version ≡ x.heap = ap H (exprs_grow es s).version ∙ at in
    let args =
    exprs_values T.kinds E.values x.store x.heap es vs s (sound_of H E.values x.store x.heap T here E.valued)
    give in
    let R = call_values H E.values P proc ys n es vs T x y E.valued here args callee C in
    let Q : StepValues H V P (path.call_step ys n es) x y T (call_walked (Some proc) (names ys) (exprs_terms es T) T)
    (call_parts (Some proc) (exprs_terms es T) T) = record {
      values = R.values;
      more = λ t v e. R.more t v (E.more t v e);
      valued = R.valued;
      used = R.used;
      cells = R.cells;
      results = R.results;
      kept = R.kept;
    } in
    subst (λ o. StepValues H V P (path.call_step ys n es) x y T (call_walked o (names ys) (exprs_terms es T) T)
    (call_parts o (exprs_terms es T) T)) (sym callee) Q

-- the loops of a procedure assign variables of it alone
abbrev pub LoopsAreOver : Procedure → Type 0
LoopsAreOver p = (n : ℕ) (l : path.While) → IsLoopAt p n l → NamesIn (variable_names p) l.body

-- once around a loop, any number of times
loop_values : (H : ℕ → Heap) (V : List ℕ) (P : Program) (xs : List Name) (n : ℕ) (l : path.While) (s : Terms)
    (x y : State) → NamesIn xs l.body → IsValuation H V x.store s → LoopLeads l x y
    → StepValues H V P (path.while_step n) x y (invariant_walked (Some l) s) (loop_walked (Some l) xs s)
    (loop_parts (Some l) xs s)
loop_values H V P xs n l s x y over S A =
    let zs = filter (some_assigns l.body) xs in
    let kept : (m : Name) → (Contains zs m → ⊥) → y.store m ≡ x.store m =
    λ m out. A.kept m (λ is. out (assigned_listed xs l m over is)) in
    let E = walked_valued H x.store l.invariant V s S in
    let T : Terms = moved_on (walked l.invariant s) in
    let mid = with_assigned l xs s in
    let but : GivesBut zs E.values y.store T.bindings = λ m t e. elim (name_or zs m) [
      | inl there ↦ inl there
      | inr out ↦ inr (E.valued.gives m t e ∙ ap Some (sym (kept m out)))
    ] in
    let F = renewed_valued H y.store zs E.values T E.valued.kinds but in
    let G = walked_valued H y.store l.invariant F.values mid F.valued in
    let more : More E.values G.values = λ t v e. G.more t v (F.more t v e) in
    record {
      values = G.values;
      more = λ t v e. more t v (E.more t v e);
      valued = G.valued;
      used = gives_more E.values G.values x.store (walked l.invariant s).bindings more E.valued.gives;
      cells = tt;
      results = tt;
      kept = λ m none. kept m (λ there.
          let k = renewed_known zs T m (inl there) in
          let some : (walked l.invariant mid).bindings m ≡ Some k.0 =
          (walked_grows l.invariant mid).bindings m k.0 k.1 in
          absurd cc);
    }

looped_values : (H : ℕ → Heap) (V : List ℕ) (P : Program) (home : Procedure) (n : ℕ) (s : Terms) (x y : State)
    → LoopsAreOver home → IsValuation H V x.store s → StepLeads P home (path.while_step n) x y
    → StepValues H V P (path.while_step n) x y (step_used home (path.while_step n) s)
    (step_walked P home (path.while_step n) s) (term_step P home (path.while_step n) s)
looped_values H V P home n s x y over S takes =
    let (l, is, A) = takes in
    let xs = variable_names home in
    subst (λ o. StepValues H V P (path.while_step n) x y (invariant_walked o s) (loop_walked o xs s)
    (loop_parts o xs s)) (sym is) (loop_values H V P xs n l s x y (over n l is) S A)

-- each step
pub step_values : (H : ℕ → Heap) (V : List ℕ) (P : Program) (home : Procedure) (proc : path.PathStep) (s : Terms)
    (x y : State) → LoopsAreOver home → IsValuation H V x.store s → H s.version ≡ x.heap → StepLeads P home proc x y
    → StepValues H V P proc x y (step_used home proc s) (step_walked P home proc s) (term_step P home proc s)
step_values H V P home (path.access_step o) s x y over S at takes =
    let E = visited_valued H V x.store o.name s S in
    subst (λ (z : State). StepValues H V P (path.access_step o) x z (used o.name s) (followed o.name (used o.name s))
    (term_step P home (path.access_step o) s)) (sym takes.1)
    record {
      values = E.values;
      more = E.more;
      valued = E.valued;
      used = E.valued.gives;
      cells = tt;
      results = tt;
      kept = λ n e. refl;
    }
step_values H V P home (path.assume_step l e r) s x y over S at takes =
    let T = expr_used r (expr_used l s) in
    let E =
    later H V x.store (expr_used l s) T (expr_valued H V x.store l s S)
    (λ W F. expr_valued H W x.store r (expr_used l s) F) in
    subst (λ (z : State). StepValues H V P (path.assume_step l e r) x z T T
    (term_step P home (path.assume_step l e r) s)) (sym takes.1)
    record {
      values = E.values;
      more = E.more;
      valued = E.valued;
      used = E.valued.gives;
      cells = tt;
      results = tt;
      kept = λ n e. refl;
    }
step_values H V P home (path.set_step o e) s x y over S at takes = set_values H V P home o e s x y S at takes
step_values H V P home (path.new_step o) s x y over S at takes = new_values H V P home o s x y S takes
step_values H V P home (path.write_step o e) s x y over S at takes =
    let T = expr_used e (used o.name s) in
    let E =
    later H V x.store (used o.name s) T (used_valued H V x.store o.name s S)
    (λ W F. expr_valued H W x.store e (used o.name s) F) in
    subst (λ (z : State). StepValues H V P (path.write_step o e) x z T (moved_on T)
    (term_step P home (path.write_step o e) s)) (sym takes.3)
    record {
      values = E.values;
      more = E.more;
      valued = record { kinds = E.valued.kinds; gives = E.valued.gives };
      used = E.valued.gives;
      cells = tt;
      results = tt;
      kept = λ n e. refl;
    }
step_values H V P home (path.free_step o) s x y over S at takes =
    let T = used o.name s in
    let E = used_valued H V x.store o.name s S in
    subst (λ (z : State). StepValues H V P (path.free_step o) x z T (moved_on T)
    (term_step P home (path.free_step o) s)) (sym takes.1)
    record {
      values = E.values;
      more = E.more;
      valued = record { kinds = E.valued.kinds; gives = E.valued.gives };
      used = E.valued.gives;
      cells = tt;
      results = tt;
      kept = λ n e. refl;
    }
step_values H V P home (path.call_step ys n es) s x y over S at takes =
    called_values H V P home ys n es s x y S at takes
step_values H V P home (path.while_step n) s x y over S at takes = looped_values H V P home n s x y over S takes
step_values H V P home (path.return_step es) s x y over S at takes = return_values H V P home es s x y S at takes
