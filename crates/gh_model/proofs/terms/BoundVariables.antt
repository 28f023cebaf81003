-- Only variables of a condition's procedure have terms at its states.
use Rattle.std.specs.Prelude.{◌≡◌, ◌⊎◌, ℕ, List, [], ◌∷◌, filter, Option, Some, None, Bool, true, false, cond}
use Rattle.std.specs.Prelude.{slice_get, Contains, All}
use Rattle.std.proofs.lemmas.List.Elements.{All-head, All-tail}
use Rattle.std.proofs.Common.{refl, sym, subst, inl, inr}
use Rattle.gh_ast.specs.declared.Operand.{Operand}
use Rattle.gh_ast.specs.declared.Operand.TheVariants.{Null, Var}
use Rattle.gh_ast.specs.declared.Expr.{Expr}
use Rattle.gh_ast.specs.declared.Expr.TheVariants.{Plain, Read}
use Rattle.gh_ast.specs.Plain.{Cond, compare, negation, conjunction, disjunction, Conds, no_conds, cond_first}
use Rattle.gh_ast.specs.Plain.{Assertion, empty, comparison, points_to, cell, segment, star, cases, Assertions}
use Rattle.gh_ast.specs.Plain.{no_assertions, assertion_first, Procedure, Program}
use Rattle.gh_ast.specs.Programs.{Name, names, results_of, variable_names}
use Rattle.gh_ast.specs.Names.{OperandIn, ExprIn, CondIn, CondsIn, AssertionIn, AssertionsIn}
use Rattle.gh_ast.proofs.Lists.{member_first, member_later, member_cases}
use Rattle.gh_path.specs.Graphs.{Check, access, callee_entry, loop_entry, return_check, loop_end, PathStep, access_step}
use Rattle.gh_path.specs.Graphs.{assume_step, set_step, new_step, write_step, free_step, call_step, while_step}
use Rattle.gh_path.specs.Graphs.{return_step, While, loops_of, meets_at}
use Rattle.gh_path.specs.Terms.{with_value, Bindings, bound, all_bound, Terms, terms, used, used_as, followed}
use Rattle.gh_path.specs.Terms.{operand_used, expr_used, expr_term, exprs_used, exprs_terms, cond_walked, conds_walked}
use Rattle.gh_path.specs.Terms.{walked, all_walked, moved_on, renewed, some_assigns, call_walked, loop_walked}
use Rattle.gh_path.specs.Terms.{invariant_walked, step_walked, no_terms, each_walked}
use Rattle.gh_symb.specs.Symbolic.{step_used, check_used, used_first, first_use, either_term, state_bindings, begins}
use Rattle.gh_model.specs.BoundVariables.{AreOf, AllAreOf, OnlyVariablesHaveTerms}
use Rattle.gh_model.proofs.terms.Extension.{bound_cases}
use Rattle.gh_model.proofs.paths.Ways.{its_declared, its_path}
use Rattle.gh_model.proofs.paths.PathVariables.{AllOf, ExprsIn, StepIn, CheckIn, PathIn, start_in}

bound_of : (xs : List Name) (b : Bindings) (x : Name) (u : ℕ) → Contains xs x → AreOf xs b → AreOf xs (bound b x u)
bound_of xs b x u c B y t e = elim (bound_cases b x u y t e) [
  | inl (same, at) ↦ subst (Contains xs) (sym same) c
  | inr old ↦ B y t old
]

used_of : (xs : List Name) (x : Name) (s : Terms) → Contains xs x → AreOf xs s.bindings → AreOf xs (used x s).bindings
used_of xs x s c B = by_binding (s.bindings x)
  where
    by_binding : (o : Option ℕ) → AreOf xs (used_as x o s).bindings
    by_binding (Some t) = B
    by_binding None = bound_of xs s.bindings x _ c B

operand_of : (xs : List Name) (o : Operand) (s : Terms) → OperandIn o xs → AreOf xs s.bindings
    → AreOf xs (operand_used o s).bindings
operand_of xs (Null p) s c B = B
operand_of xs (Var o) s c B = used_of xs o.name s c B

expr_of : (xs : List Name) (e : Expr) (s : Terms) → ExprIn e xs → AreOf xs s.bindings
    → AreOf xs (expr_used e s).bindings
expr_of xs (Plain o) s c B = operand_of xs o s c B
expr_of xs (Read o) s c B = used_of xs o.name s c B

exprs_of : (xs : List Name) (es : List Expr) (s : Terms) → ExprsIn es xs → AreOf xs s.bindings
    → AreOf xs (exprs_used es s).bindings
exprs_of xs [] s c B = B
exprs_of xs (e ∷ es) s c B = exprs_of xs es (expr_used e s) c.1 (expr_of xs e s c.0 B)

mutual
  test_of : (xs : List Name) (t : Cond) (s : Terms) → CondIn t xs → AreOf xs s.bindings
      → AreOf xs (cond_walked t s).bindings
  test_of xs (compare l e r) s c B = expr_of xs r (expr_used l s) c.1 (expr_of xs l s c.0 B)
  test_of xs (negation t) s c B = test_of xs t s c B
  test_of xs (conjunction ts) s c B = tests_of xs ts s c B
  test_of xs (disjunction ts) s c B = tests_of xs ts s c B

  tests_of : (xs : List Name) (ts : Conds) (s : Terms) → CondsIn ts xs → AreOf xs s.bindings
      → AreOf xs (conds_walked ts s).bindings
  tests_of xs no_conds s c B = B
  tests_of xs (cond_first t ts) s c B = tests_of xs ts (cond_walked t s) c.1 (test_of xs t s c.0 B)

mutual
  pub walked_of : (xs : List Name) (f : Assertion) (s : Terms) → AssertionIn f xs → AreOf xs s.bindings
      → AreOf xs (walked f s).bindings
  walked_of xs empty s c B = B
  walked_of xs (comparison l e r) s c B = operand_of xs r (operand_used l s) c.1 (operand_of xs l s c.0 B)
  walked_of xs (points_to x y) s c B = operand_of xs y (followed x.name (used x.name s)) c.1 (used_of xs x.name s c.0 B)
  walked_of xs (cell x) s c B = used_of xs x.name s c B
  walked_of xs (segment x y) s c B = operand_of xs y (operand_used x s) c.1 (operand_of xs x s c.0 B)
  walked_of xs (star fs) s c B = all_of xs fs s c B
  walked_of xs (cases t f g) s c B =
      walked_of xs g (walked f (cond_walked t s)) c.2 (walked_of xs f (cond_walked t s) c.1 (test_of xs t s c.0 B))

  all_of : (xs : List Name) (fs : Assertions) (s : Terms) → AssertionsIn fs xs → AreOf xs s.bindings
      → AreOf xs (all_walked fs s).bindings
  all_of xs no_assertions s c B = B
  all_of xs (assertion_first f fs) s c B = all_of xs fs (walked f s) c.1 (walked_of xs f s c.0 B)

all_bound_of : (xs : List Name) (b : Bindings) (ys : List Name) (ts : List ℕ) → AllOf ys xs → AreOf xs b
    → AreOf xs (all_bound b ys ts)
all_bound_of xs b [] ts A B = B
all_bound_of xs b (y ∷ ys) [] A B = B
all_bound_of xs b (y ∷ ys) (t ∷ ts) A B =
    all_bound_of xs (bound b y t) ys ts (λ z c. A z (member_later y z ys c))
    (bound_of xs b y t (A y (member_first y ys)) B)

renewed_of : (xs : List Name) (ys : List Name) (s : Terms) → AllOf ys xs → AreOf xs s.bindings
    → AreOf xs (renewed ys s).bindings
renewed_of xs [] s A B = B
renewed_of xs (y ∷ ys) s A B =
    renewed_of xs ys (terms (with_value s.kinds) _ s.version) (λ z c. A z (member_later y z ys c))
    (bound_of xs s.bindings y _ (A y (member_first y ys)) B)

filter_of : (p : Name → Bool) (xs : List Name) → AllOf (filter p xs) xs
filter_of p [] y c = c
filter_of p (x ∷ xs) y c = by_test (filter_of p xs y) (p x) c
  where
    by_test : (Contains (filter p xs) y → Contains xs y) → (b : Bool)
        → Contains (cond b (x ∷ filter p xs) (filter p xs)) y → Contains (x ∷ xs) y
    by_test rest true d = elim (member_cases x (filter p xs) y d) [
      | inl same ↦ subst (Contains (x ∷ xs)) same (member_first x xs)
      | inr more ↦ member_later x y xs (rest more)
    ]
    by_test rest false d = member_later x y xs (rest d)

-- alternatives
each_of : (xs : List Name) (fs : List Assertion) (s : Terms) → All (λ f. AssertionIn f xs) fs → AreOf xs s.bindings
    → AreOf xs (each_walked fs s).bindings
each_of xs [] s c B = B
each_of xs (f ∷ fs) s c B =
    each_of xs fs (walked f s) (All-tail (λ g. AssertionIn g xs) f fs c)
    (walked_of xs f s (All-head (λ g. AssertionIn g xs) f fs c) B)

call_of : (xs : List Name) (o : Option Procedure) (ys : List Name) (ts : List ℕ) (s : Terms) → AllOf ys xs
    → AreOf xs s.bindings → AreOf xs (call_walked o ys ts s).bindings
call_of xs None ys ts s A B = B
call_of xs (Some p) ys ts s A B = all_bound_of xs s.bindings ys _ A B

-- what a loop keeps to, and what it assigns
invariant_of : (xs : List Name) (o : Option While) (s : Terms) → ((l : While) → o ≡ Some l → AssertionIn l.invariant xs)
    → AreOf xs s.bindings → AreOf xs (invariant_walked o s).bindings
invariant_of xs None s c B = B
invariant_of xs (Some l) s c B = walked_of xs l.invariant s (c l refl) B

loop_of : (xs : List Name) (o : Option While) (s : Terms) → ((l : While) → o ≡ Some l → AssertionIn l.invariant xs)
    → AreOf xs s.bindings → AreOf xs (loop_walked o xs s).bindings
loop_of xs None s c B = B
loop_of xs (Some l) s c B =
    let zs = filter (some_assigns l.body) xs in
    let t = moved_on (walked l.invariant s) in
    walked_of xs l.invariant (renewed zs t) (c l refl)
    (renewed_of xs zs t (filter_of (some_assigns l.body) xs) (walked_of xs l.invariant s (c l refl) B))

step_of : (P : Program) (home : Procedure) (step : PathStep) (s : Terms) → StepIn home step
    → AreOf (variable_names home) s.bindings → AreOf (variable_names home) (step_walked P home step s).bindings
step_of P home (access_step o) s c B = used_of (variable_names home) o.name s c B
step_of P home (assume_step l e r) s c B =
    expr_of (variable_names home) r (expr_used l s) c.1 (expr_of (variable_names home) l s c.0 B)
step_of P home (set_step x e) s c B =
    let xs = variable_names home in
    bound_of xs (expr_used e s).bindings x.name (expr_term e (expr_used e s)) c.0 (expr_of xs e s c.1 B)
step_of P home (new_step x) s c B = bound_of (variable_names home) s.bindings x.name _ c B
step_of P home (write_step x e) s c B =
    expr_of (variable_names home) e (used x.name s) c.1 (used_of (variable_names home) x.name s c.0 B)
step_of P home (free_step x) s c B = used_of (variable_names home) x.name s c B
step_of P home (call_step ys n es) s c B =
    let xs = variable_names home in
    call_of xs (slice_get P.procedures n) (names ys) (exprs_terms es (exprs_used es s)) (exprs_used es s) c.0
    (exprs_of xs es s c.1 B)
step_of P home (while_step n) s c B = loop_of (variable_names home) (slice_get (loops_of home) n) s c B
step_of P home (return_step es) s c B =
    let xs = variable_names home in
    all_bound_of xs (exprs_used es s).bindings (results_of home) (exprs_terms es (exprs_used es s)) c.0
    (exprs_of xs es s c.1 B)

step_used_of : (home : Procedure) (p : PathStep) (s : Terms) → StepIn home p → AreOf (variable_names home) s.bindings
    → AreOf (variable_names home) (step_used home p s).bindings
step_used_of home (access_step o) s c B = used_of (variable_names home) o.name s c B
step_used_of home (assume_step l e r) s c B =
    expr_of (variable_names home) r (expr_used l s) c.1 (expr_of (variable_names home) l s c.0 B)
step_used_of home (set_step x e) s c B = expr_of (variable_names home) e s c.1 B
step_used_of home (new_step x) s c B = B
step_used_of home (write_step x e) s c B =
    expr_of (variable_names home) e (used x.name s) c.1 (used_of (variable_names home) x.name s c.0 B)
step_used_of home (free_step x) s c B = used_of (variable_names home) x.name s c B
step_used_of home (call_step ys n es) s c B = exprs_of (variable_names home) es s c.1 B
step_used_of home (while_step n) s c B = invariant_of (variable_names home) (slice_get (loops_of home) n) s c B
step_used_of home (return_step es) s c B = exprs_of (variable_names home) es s c.1 B

check_used_of : (home : Procedure) (k : Check) (s : Terms) → CheckIn home k → AreOf (variable_names home) s.bindings
    → AreOf (variable_names home) (check_used home k s).bindings
check_used_of home (access o) s c B = used_of (variable_names home) o.name s c B
check_used_of home (callee_entry at n es) s c B = exprs_of (variable_names home) es s c B
check_used_of home (loop_entry at n) s c B = invariant_of (variable_names home) (slice_get (loops_of home) n) s c B
check_used_of home (return_check at) s c B = each_of (variable_names home) home.gives s c B
check_used_of home (loop_end at n) s c B = invariant_of (variable_names home) (slice_get (loops_of home) n) s c B

pub first_cases : (o q r : Option ℕ) (t : ℕ) → used_first o q r ≡ Some t → (o ≡ Some t) ⊎ (r ≡ Some t)
first_cases (Some u) q r t e = inl e
first_cases None (Some u) r t e = absurd cc
first_cases None None r t e = inr e

pub either_cases : (o r : Option ℕ) (t : ℕ) → either_term o r ≡ Some t → (o ≡ Some t) ⊎ (r ≡ Some t)
either_cases (Some u) r t e = inl e
either_cases None r t e = inr e

first_of : (P : Program) (home : Procedure) (ps : List PathStep) (k : Check) (s : Terms) → PathIn home ps k
    → AreOf (variable_names home) s.bindings → AreOf (variable_names home) (first_use P home ps k s)
first_of P home [] k s c B y t e = check_used_of home k s c B y t e
first_of P home (proc ∷ ps) k s c B y t e =
    elim (first_cases ((step_used home proc s).bindings y) ((step_walked P home proc s).bindings y)
    (first_use P home ps k (step_walked P home proc s) y) t e) [
      | inl here ↦ step_used_of home proc s c.0 B y t here
      | inr later ↦ first_of P home ps k (step_walked P home proc s) c.1 (step_of P home proc s c.0 B) y t later
    ]

either_of : (P : Program) (home : Procedure) (ps : List PathStep) (k : Check) (s : Terms) → PathIn home ps k
    → AreOf (variable_names home) s.bindings
    → AreOf (variable_names home) (λ x. either_term (s.bindings x) (first_use P home ps k s x))
either_of P home ps k s c B y t e = elim (either_cases (s.bindings y) (first_use P home ps k s y) t e) [
  | inl here ↦ B y t here
  | inr later ↦ first_of P home ps k s c B y t later
]

states_of : (P : Program) (home : Procedure) (ps : List PathStep) (k : Check) (s : Terms) → PathIn home ps k
    → AreOf (variable_names home) s.bindings → AllAreOf (variable_names home) (state_bindings P home ps k s)
states_of P home [] k s c B = (either_of P home [] k s c B, tt)
states_of P home (proc ∷ ps) k s c B = (
  either_of P home (proc ∷ ps) k s c B,
  states_of P home ps k (step_walked P home proc s) c.1 (step_of P home proc s c.0 B),
)

pub only_variables_have_terms : OnlyVariablesHaveTerms
only_variables_have_terms P proc c typed is of =
    let S = start_in P typed proc (its_declared P proc c of) c.start in
    states_of P proc c.way.steps c.way.check (begins proc c.start)
    (S.graph c.way.steps c.way.check (its_path P proc c is of))
    (walked_of (variable_names proc) (meets_at proc c.start) no_terms S.meets (λ y t e. absurd cc))

-- a name that is no variable has no term
pub no_term_outside : (xs : List Name) (b : Bindings) → AreOf xs b → (y : Name) → (Contains xs y → ⊥) → b y ≡ None
no_term_outside xs b B y out = by_term (b y) refl
  where
    by_term : (o : Option ℕ) → b y ≡ o → o ≡ None
    by_term None e = refl
    by_term (Some t) e = absurd (out (B y t e))
