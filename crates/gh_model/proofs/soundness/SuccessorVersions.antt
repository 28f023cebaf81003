-- The successors among a condition's terms are in versions of its heaps.
use Rattle.std.specs.Prelude.{◌≡◌, ℕ, zero, suc, ◌+◌, ◌≤◌, ◌<◌, List, [], ◌∷◌, ◌++◌, length, filter, slice_get, Option}
use Rattle.std.specs.Prelude.{Some, None, Bool, true, false, cond}
use Rattle.std.specs.List.{list_any}
use Rattle.std.proofs.Common.{refl, sym, subst, inl, inr, arith}
use Rattle.std.proofs.lemmas.Bool.{cases_eq}
use Rattle.gh_ast.specs.declared.Operand.{Operand}
use Rattle.gh_ast.specs.declared.Operand.TheVariants.{Null, Var}
use Rattle.gh_ast.specs.declared.Expr.{Expr}
use Rattle.gh_ast.specs.declared.Expr.TheVariants.{Plain, Read}
use Rattle.gh_ast.specs.Plain.{Cond, compare, negation, conjunction, disjunction, Conds, no_conds, cond_first}
use Rattle.gh_ast.specs.Plain.{Assertion, empty, comparison, points_to, cell, segment, star, cases, Assertions}
use Rattle.gh_ast.specs.Plain.{no_assertions, assertion_first, Procedure, Program}
use Rattle.gh_ast.specs.Programs.{Name, names, results_of, variable_names}
use Rattle.gh_ast.specs.Rules.{IsTyped}
use Rattle.gh_assert.specs.Heaps.{Heap}
use Rattle.gh_path.specs.Graphs as path
use Rattle.gh_path.specs.Conditions.{Condition, IsOf}
use Rattle.gh_path.specs.Terms.{Kind, next, same_kind, added, with_value, bound, Terms, terms, used, used_as, term_of}
use Rattle.gh_path.specs.Terms.{followed, operand_used, expr_used, exprs_used, exprs_terms, cond_walked, conds_walked}
use Rattle.gh_path.specs.Terms.{walked, all_walked, each_walked, moved_on, rebound, renewed, some_assigns, bound_inside}
use Rattle.gh_path.specs.Terms.{call_walked, loop_walked, step_walked, steps_walked, entry_walked, invariant_walked}
use Rattle.gh_path.specs.Terms.{check_walked, no_terms}
use Rattle.gh_symb.specs.Symbolic.{term_steps, state_bindings, begins, symbolic_of}
use Rattle.gh_trace.specs.Traces.{State, IsTrace}
use Rattle.gh_model.specs.TermValues.{path_version, HaveValues, AreTermValues}
use Rattle.gh_trace.specs.Validity.{IsCounterexample}
use Rattle.gh_model.proofs.terms.Extension.{walked_grows}
use Rattle.gh_model.proofs.terms.Callees.{HasSuccessors}
use Rattle.gh_model.proofs.soundness.WalkValues.{IsKindValuation, snoc_cases}
use Rattle.gh_model.proofs.terms.Bounds.{check_version}
use Rattle.gh_model.proofs.soundness.Interpretation.{value_at, there_at, within_list}
use Rattle.gh_model.proofs.ownership.Traces.{step_version}
use Rattle.gh_model.proofs.soundness.TraceValues.{found, heap_in, HeapsAre, heaps_are}

-- each successor that is listed is in a version up to n
abbrev UpTo : List Kind → ℕ → Type 0
UpTo ks n = (t i u : ℕ) → slice_get ks t ≡ Some (next i u) → i ≤ n

abbrev UpToNow : Terms → Type 0
UpToNow s = UpTo s.kinds s.version

last_up : (ks : List Kind) (k : Kind) (n : ℕ) → UpTo ks n → ((i u : ℕ) → k ≡ next i u → i ≤ n) → UpTo (ks ++ k ∷ []) n
last_up ks k n B f t i u e =
    elim (snoc_cases ks k t (next i u) e) [ inl old ↦ B t i u old | inr (at, same) ↦ f i u same ]

value_up : (ks : List Kind) (n : ℕ) → UpTo ks n → UpTo (with_value ks) n
value_up ks n B = last_up ks _ n B (λ i u e. absurd cc)

own_version : (i u j w : ℕ) → next i u ≡ next j w → i ≡ j
own_version i u j w e = cc

added_up : (i x : ℕ) (ks : List Kind) → UpTo ks i → UpTo (added (next i x) ks) i
added_up i x ks B = by_test (list_any (same_kind (next i x)) ks)
  where
    by_test : (b : Bool) → UpTo (cond b ks (ks ++ next i x ∷ [])) i
    by_test true = B
    by_test false = last_up ks (next i x) i B (λ j u e. let same : i ≡ j = own_version i x j u e in omega (arith, same))

moved_up : (ks : List Kind) (n : ℕ) → UpTo ks n → UpTo ks (n + 1)
moved_up ks n B t i u e = omega (arith, B t i u e)

used_up : (x : Name) (s : Terms) → UpToNow s → UpToNow (used x s)
used_up x s B = by_binding (s.bindings x)
  where
    by_binding : (o : Option ℕ) → UpToNow (used_as x o s)
    by_binding (Some t) = B
    by_binding None = value_up s.kinds s.version B

visited_up : (x : Name) (s : Terms) → UpToNow s → UpToNow (followed x (used x s))
visited_up x s B = added_up (used x s).version (term_of x (used x s)) (used x s).kinds (used_up x s B)

operand_up : (o : Operand) (s : Terms) → UpToNow s → UpToNow (operand_used o s)
operand_up (Null p) s B = B
operand_up (Var o) s B = used_up o.name s B

expr_up : (e : Expr) (s : Terms) → UpToNow s → UpToNow (expr_used e s)
expr_up (Plain o) s B = operand_up o s B
expr_up (Read o) s B = visited_up o.name s B

exprs_up : (es : List Expr) (s : Terms) → UpToNow s → UpToNow (exprs_used es s)
exprs_up [] s B = B
exprs_up (e ∷ es) s B = exprs_up es (expr_used e s) (expr_up e s B)

mutual
  test_up : (t : Cond) (s : Terms) → UpToNow s → UpToNow (cond_walked t s)
  test_up (compare l e r) s B = expr_up r (expr_used l s) (expr_up l s B)
  test_up (negation t) s B = test_up t s B
  test_up (conjunction ts) s B = tests_up ts s B
  test_up (disjunction ts) s B = tests_up ts s B

  tests_up : (ts : Conds) (s : Terms) → UpToNow s → UpToNow (conds_walked ts s)
  tests_up no_conds s B = B
  tests_up (cond_first t ts) s B = tests_up ts (cond_walked t s) (test_up t s B)

mutual
  walked_up : (f : Assertion) (s : Terms) → UpToNow s → UpToNow (walked f s)
  walked_up empty s B = B
  walked_up (comparison l e r) s B = operand_up r (operand_used l s) (operand_up l s B)
  walked_up (points_to x y) s B = operand_up y (followed x.name (used x.name s)) (visited_up x.name s B)
  walked_up (cell x) s B = visited_up x.name s B
  walked_up (segment x y) s B = operand_up y (operand_used x s) (operand_up x s B)
  walked_up (star fs) s B = all_up fs s B
  walked_up (cases t f g) s B = walked_up g (walked f (cond_walked t s)) (walked_up f (cond_walked t s) (test_up t s B))

  all_up : (fs : Assertions) (s : Terms) → UpToNow s → UpToNow (all_walked fs s)
  all_up no_assertions s B = B
  all_up (assertion_first f fs) s B = all_up fs (walked f s) (walked_up f s B)

renewed_up : (xs : List Name) (s : Terms) → UpToNow s → UpToNow (renewed xs s)
renewed_up [] s B = B
renewed_up (x ∷ xs) s B =
    renewed_up xs (terms (with_value s.kinds) (bound s.bindings x (length s.kinds)) s.version)
    (value_up s.kinds s.version B)

-- alternatives
each_up : (fs : List Assertion) (s : Terms) → UpToNow s → UpToNow (each_walked fs s)
each_up [] s B = B
each_up (f ∷ fs) s B = each_up fs (walked f s) (walked_up f s B)

-- what is walked, then new values in the next version
then_up : (f : Assertion) (xs : List Name) (s : Terms) → UpToNow s → UpToNow (renewed xs (moved_on (walked f s)))
then_up f xs s B =
    renewed_up xs (moved_on (walked f s)) (moved_up (walked f s).kinds (walked f s).version (walked_up f s B))

call_up : (o : Option Procedure) (xs : List Name) (ts : List ℕ) (s : Terms) → UpToNow s
    → UpToNow (call_walked o xs ts s)
call_up None xs ts s B = B
call_up (Some p) xs ts s B =
    let r = rebound s (bound_inside p ts) in
    each_up p.gives (renewed (results_of p) (moved_on (walked p.needs r))) (then_up p.needs (results_of p) r B)

loop_up : (o : Option path.While) (xs : List Name) (s : Terms) → UpToNow s → UpToNow (loop_walked o xs s)
loop_up None xs s B = B
loop_up (Some l) xs s B =
    let zs = filter (some_assigns l.body) xs in
    walked_up l.invariant (renewed zs (moved_on (walked l.invariant s))) (then_up l.invariant zs s B)

step_up : (P : Program) (home : Procedure) (proc : path.PathStep) (s : Terms) → UpToNow s
    → UpToNow (step_walked P home proc s)
step_up P home (path.access_step o) s B = visited_up o.name s B
step_up P home (path.assume_step l e r) s B = expr_up r (expr_used l s) (expr_up l s B)
step_up P home (path.set_step x e) s B = expr_up e s B
step_up P home (path.new_step x) s B =
    moved_up (with_value (with_value s.kinds)) s.version
    (value_up (with_value s.kinds) s.version (value_up s.kinds s.version B))
step_up P home (path.write_step x e) s B =
    moved_up (expr_used e (used x.name s)).kinds (expr_used e (used x.name s)).version
    (expr_up e (used x.name s) (used_up x.name s B))
step_up P home (path.free_step x) s B = moved_up (used x.name s).kinds (used x.name s).version (used_up x.name s B)
step_up P home (path.call_step ys n es) s B =
    call_up (slice_get P.procedures n) (names ys) (exprs_terms es (exprs_used es s)) (exprs_used es s) (exprs_up es s B)
step_up P home (path.while_step n) s B = loop_up (slice_get (path.loops_of home) n) (variable_names home) s B
step_up P home (path.return_step es) s B = exprs_up es s B

steps_up : (P : Program) (home : Procedure) (ps : List path.PathStep) (s : Terms) → UpToNow s
    → UpToNow (steps_walked P home ps s)
steps_up P home [] s B = B
steps_up P home (proc ∷ ps) s B = steps_up P home ps (step_walked P home proc s) (step_up P home proc s B)

entry_up : (o : Option Procedure) (ts : List ℕ) (s : Terms) → UpToNow s → UpToNow (entry_walked o ts s)
entry_up None ts s B = B
entry_up (Some p) ts s B = walked_up p.needs (rebound s (bound_inside p ts)) B

invariant_up : (o : Option path.While) (s : Terms) → UpToNow s → UpToNow (invariant_walked o s)
invariant_up None s B = B
invariant_up (Some l) s B = walked_up l.invariant s B

check_up : (P : Program) (home : Procedure) (c : path.Check) (s : Terms) → UpToNow s → UpToNow (check_walked P home c s)
check_up P home (path.access o) s B = used_up o.name s B
check_up P home (path.callee_entry at n es) s B =
    entry_up (slice_get P.procedures n) (exprs_terms es (exprs_used es s)) (exprs_used es s) (exprs_up es s B)
check_up P home (path.loop_entry at n) s B = invariant_up (slice_get (path.loops_of home) n) s B
check_up P home (path.return_check at) s B = each_up home.gives s B
check_up P home (path.loop_end at n) s B = invariant_up (slice_get (path.loops_of home) n) s B

null_up : UpToNow no_terms
null_up zero i u e = absurd cc
null_up (suc t) i u e = absurd cc

one_up : (p : path.PathStep) (i j : ℕ) → i ≤ j → (i ≡ j → ⊥) → path_version p i ≤ j
one_up (path.access_step o) i j l n = l
one_up (path.assume_step a e r) i j l n = l
one_up (path.set_step x e) i j l n = l
one_up (path.new_step x) i j l n = omega (arith, l, n)
one_up (path.write_step x e) i j l n = omega (arith, l, n)
one_up (path.free_step x) i j l n = omega (arith, l, n)
one_up (path.call_step ys k es) i j l n = omega (arith, l, n)
one_up (path.while_step k) i j l n = omega (arith, l, n)
one_up (path.return_step es) i j l n = l

-- in each version of the path what follows a term has its value
follows_along : (P : Program) (home : Procedure) (K : List Kind) (V : List ℕ) (c : path.Check) (H : ℕ → Heap)
    (ps : List path.PathStep) (s : Terms) (x : State) (ys : List State)
    → HaveValues P K V ps (term_steps P home ps s) (state_bindings P home ps c s) s.version x ys
    → HeapsAre H ps x ys s.version → IsTrace P home x ps ys
    → (j : ℕ) → s.version ≤ j → j ≤ (steps_walked P home ps s).version → HasSuccessors K V j (H j)
follows_along P home K V c H [] s x ys W A T j low high =
    let same : s.version ≡ j = omega (arith, low, high) in
    subst (λ i. HasSuccessors K V i (H i)) same (subst (λ h. HasSuccessors K V s.version h) (sym A) W.next)
follows_along P home K V c H (proc ∷ ps) s x [] W A T j low high = absurd W
follows_along P home K V c H (proc ∷ ps) s x (y ∷ ys) W A T j low high = elim (cases_eq s.version j) [
  | inl same ↦ subst (λ i. HasSuccessors K V i (H i)) same
      (subst (λ h. HasSuccessors K V s.version h) (sym A.0) W.0.next)
  | inr other ↦
      let t = step_walked P home proc s in
      let version : t.version ≡ path_version proc s.version = step_version P home proc s x y T.0 in
      let above : path_version proc s.version ≤ j =
      one_up proc s.version j low (λ e. absurd (omega (arith, e, other))) in
      let from : t.version ≤ j = omega (arith, version, above) in
      follows_along P home K V c H ps t y ys
      (subst (λ i. HaveValues P K V ps (term_steps P home ps t) (state_bindings P home ps c t) i y ys) (sym version)
      W.3) (subst (HeapsAre H ps y ys) (sym version) A.1) T.1 j from high
]

-- any values of the terms are values of their kinds
pub kinds_valued : (P : Program) (proc : Procedure) (c : Condition) (x : State) (ys : List State) (V : List ℕ)
    → IsTyped P → IsOf P c proc → IsCounterexample P proc c x ys → AreTermValues P proc c x ys V
    → IsKindValuation (heap_in c.way.steps x ys 0) V (symbolic_of P proc c).terms
kinds_valued P proc c x ys V typed of C values =
    let f = found P proc c x ys typed of C in
    let K = (symbolic_of P proc c).terms in
    let ps = c.way.steps in
    let k = c.way.check in
    let H = heap_in ps x ys 0 in
    let m = path.meets_at proc c.start in
    let s = begins proc c.start in
    let sN = steps_walked P proc ps s in
    let version : s.version ≡ 0 = (walked_grows m no_terms).version in
    let up : UpTo K (check_walked P proc k sN).version =
    check_up P proc k sN (steps_up P proc ps s (walked_up m no_terms null_up)) in
    let end : (check_walked P proc k sN).version ≡ sN.version = check_version P proc k sN in
    let heaps : HeapsAre H ps x ys s.version =
    subst (HeapsAre H ps x ys) (sym version) (heaps_are P proc H ps x ys 0 C.leads (λ j l. refl)) in
    let along : HaveValues P K V ps (term_steps P proc ps s) (state_bindings P proc ps k s) s.version x ys =
    subst (λ i. HaveValues P K V ps (term_steps P proc ps s) (state_bindings P proc ps k s) i x ys) (sym version)
    values.along in
    record {
      count = values.count;
      null = values.null;
      follows = λ t i u e.
          let g = f.2.follows t i u e in
          let below : u < length V = omega (arith, within_list f.0 u g.0 g.1, f.2.count, values.count) in
          let there = there_at V u below in
          let low : s.version ≤ i = omega (arith, version) in
          let high : i ≤ sN.version = omega (arith, up t i u e, end) in (
            value_at V u,
            there,
            follows_along P proc K V k H ps s x ys along heaps C.leads i low high t u (value_at V u)
                e there,
          );
    }
