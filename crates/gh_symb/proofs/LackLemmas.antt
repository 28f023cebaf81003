-- A variable that has no term after a walk had none before.
use Rattle.std.specs.Prelude.{◌≡◌, ℕ, List, [], ◌∷◌, map, length, Option, Some, None, Bool, true, false, cond, filter}
use Rattle.std.specs.Prelude.{slice_get}
use Rattle.std.specs.Str.{bytes_eq}
use Rattle.gh_ast.specs.declared.Operand.{Operand}
use Rattle.gh_ast.specs.declared.Operand.TheVariants.{Null, Var}
use Rattle.gh_ast.specs.declared.Expr.{Expr}
use Rattle.gh_ast.specs.declared.Expr.TheVariants.{Plain, Read}
use Rattle.gh_ast.specs.Plain.{Cond, compare, negation, conjunction, disjunction, Conds, no_conds, cond_first}
use Rattle.gh_ast.specs.Plain.{Assertion, empty, comparison, points_to, cell, segment, star, cases, Assertions}
use Rattle.gh_ast.specs.Plain.{no_assertions, assertion_first, Procedure, Program}
use Rattle.gh_ast.specs.Programs.{Name, names, results_of, variable_names}
use Rattle.gh_path.specs.Graphs.{PathStep, access_step, assume_step, set_step, new_step, write_step, free_step}
use Rattle.gh_path.specs.Graphs.{call_step, while_step, return_step, While, loops_of}
use Rattle.gh_path.specs.Terms.{with_value, Bindings, bound, all_bound, Terms, terms, used, used_as, term_of, followed}
use Rattle.gh_path.specs.Terms.{operand_used, expr_used, expr_term, exprs_used, exprs_terms, cond_walked, conds_walked}
use Rattle.gh_path.specs.Terms.{walked, all_walked, each_walked, moved_on, rebound, renewed, bound_inside}
use Rattle.gh_path.specs.Terms.{answered_inside, call_walked, loop_walked, invariant_walked, step_walked, some_assigns}
use Rattle.gh_symb.specs.Symbolic.{step_used}

abbrev pub Lacks : Terms → Name → Type 0
Lacks s x = s.bindings x ≡ None

pub bound_lacks : (b : Bindings) (y : Name) (t : ℕ) (x : Name) → bound b y t x ≡ None → b x ≡ None
bound_lacks b y t x none = by_test (bytes_eq x y) none
  where
    by_test : (same : Bool) → cond same (Some t) (b x) ≡ None → b x ≡ None
    by_test true none = absurd cc
    by_test false none = none

all_bound_lacks : (b : Bindings) (ys : List Name) (ts : List ℕ) (x : Name) → all_bound b ys ts x ≡ None → b x ≡ None
all_bound_lacks b [] ts x none = none
all_bound_lacks b (y ∷ ys) [] x none = none
all_bound_lacks b (y ∷ ys) (t ∷ ts) x none = bound_lacks b y t x (all_bound_lacks (bound b y t) ys ts x none)

used_lacks : (y : Name) (s : Terms) (x : Name) → Lacks (used y s) x → Lacks s x
used_lacks y s x none = by_binding (s.bindings y) none
  where
    by_binding : (o : Option ℕ) → Lacks (used_as y o s) x → Lacks s x
    by_binding (Some t) none = none
    by_binding None none = bound_lacks s.bindings y (length s.kinds) x none

operand_lacks : (o : Operand) (s : Terms) (x : Name) → Lacks (operand_used o s) x → Lacks s x
operand_lacks (Null p) s x none = none
operand_lacks (Var o) s x none = used_lacks o.name s x none

expr_lacks : (e : Expr) (s : Terms) (x : Name) → Lacks (expr_used e s) x → Lacks s x
expr_lacks (Plain o) s x none = operand_lacks o s x none
expr_lacks (Read o) s x none = used_lacks o.name s x none

exprs_lack : (es : List Expr) (s : Terms) (x : Name) → Lacks (exprs_used es s) x → Lacks s x
exprs_lack [] s x none = none
exprs_lack (e ∷ es) s x none = expr_lacks e s x (exprs_lack es (expr_used e s) x none)

mutual
  test_lacks : (t : Cond) (s : Terms) (x : Name) → Lacks (cond_walked t s) x → Lacks s x
  test_lacks (compare l e r) s x none = expr_lacks l s x (expr_lacks r (expr_used l s) x none)
  test_lacks (negation t) s x none = test_lacks t s x none
  test_lacks (conjunction ts) s x none = tests_lack ts s x none
  test_lacks (disjunction ts) s x none = tests_lack ts s x none

  tests_lack : (ts : Conds) (s : Terms) (x : Name) → Lacks (conds_walked ts s) x → Lacks s x
  tests_lack no_conds s x none = none
  tests_lack (cond_first t ts) s x none = test_lacks t s x (tests_lack ts (cond_walked t s) x none)

mutual
  walked_lacks : (f : Assertion) (s : Terms) (x : Name) → Lacks (walked f s) x → Lacks s x
  walked_lacks empty s x none = none
  walked_lacks (comparison l e r) s x none = operand_lacks l s x (operand_lacks r (operand_used l s) x none)
  walked_lacks (points_to y z) s x none =
      used_lacks y.name s x (operand_lacks z (followed y.name (used y.name s)) x none)
  walked_lacks (cell y) s x none = used_lacks y.name s x none
  walked_lacks (segment y z) s x none = operand_lacks y s x (operand_lacks z (operand_used y s) x none)
  walked_lacks (star fs) s x none = all_lack fs s x none
  walked_lacks (cases t f g) s x none =
      test_lacks t s x (walked_lacks f (cond_walked t s) x (walked_lacks g (walked f (cond_walked t s)) x none))

  all_lack : (fs : Assertions) (s : Terms) (x : Name) → Lacks (all_walked fs s) x → Lacks s x
  all_lack no_assertions s x none = none
  all_lack (assertion_first f fs) s x none = walked_lacks f s x (all_lack fs (walked f s) x none)

renewed_lacks : (ys : List Name) (s : Terms) (x : Name) → Lacks (renewed ys s) x → Lacks s x
renewed_lacks [] s x none = none
renewed_lacks (y ∷ ys) s x none =
    bound_lacks s.bindings y (length s.kinds) x
    (renewed_lacks ys (terms (with_value s.kinds) (bound s.bindings y (length s.kinds)) s.version) x none)

inside_lacks : (p : Procedure) (ys : List Name) (b : Bindings) (s : Terms) (x : Name)
    → Lacks (answered_inside p ys b s) x → b x ≡ None
inside_lacks p ys b s x none =
    all_bound_lacks b ys (map
    (λ r. term_of r (each_walked p.gives (renewed (results_of p) (moved_on (walked p.needs s))))) (results_of p)) x
    none

call_lacks : (o : Option Procedure) (ys : List Name) (ts : List ℕ) (s : Terms) (x : Name)
    → Lacks (call_walked o ys ts s) x → Lacks s x
call_lacks None ys ts s x none = none
call_lacks (Some p) ys ts s x none = inside_lacks p ys s.bindings (rebound s (bound_inside p ts)) x none

loop_lacks : (o : Option While) (ys : List Name) (s : Terms) (x : Name) → Lacks (loop_walked o ys s) x
    → Lacks (invariant_walked o s) x
loop_lacks None ys s x none = none
loop_lacks (Some l) ys s x none =
    let t = moved_on (walked l.invariant s) in
    renewed_lacks (filter (some_assigns l.body) ys) t x
    (walked_lacks l.invariant (renewed (filter (some_assigns l.body) ys) t) x none)

-- what a step does after its uses
pub step_lacks : (P : Program) (proc : Procedure) (a : PathStep) (s : Terms) (x : Name)
    → Lacks (step_walked P proc a s) x → Lacks (step_used proc a s) x
step_lacks P proc (access_step o) s x none = none
step_lacks P proc (assume_step l e r) s x none = none
step_lacks P proc (set_step y e) s x none =
    bound_lacks (expr_used e s).bindings y.name (expr_term e (expr_used e s)) x none
step_lacks P proc (new_step y) s x none = bound_lacks s.bindings y.name (length s.kinds) x none
step_lacks P proc (write_step y e) s x none = none
step_lacks P proc (free_step y) s x none = none
step_lacks P proc (call_step ys n es) s x none =
    call_lacks (slice_get P.procedures n) (names ys) (exprs_terms es (exprs_used es s)) (exprs_used es s) x none
step_lacks P proc (while_step n) s x none = loop_lacks (slice_get (loops_of proc) n) (variable_names proc) s x none
step_lacks P proc (return_step es) s x none =
    all_bound_lacks (exprs_used es s).bindings (results_of proc) (exprs_terms es (exprs_used es s)) x none

invariant_lacks : (o : Option While) (s : Terms) (x : Name) → Lacks (invariant_walked o s) x → Lacks s x
invariant_lacks None s x none = none
invariant_lacks (Some l) s x none = walked_lacks l.invariant s x none

-- what a step uses
pub use_lacks : (p : Procedure) (a : PathStep) (s : Terms) (x : Name) → Lacks (step_used p a s) x → Lacks s x
use_lacks p (access_step o) s x none = used_lacks o.name s x none
use_lacks p (assume_step l e r) s x none = expr_lacks l s x (expr_lacks r (expr_used l s) x none)
use_lacks p (set_step y e) s x none = expr_lacks e s x none
use_lacks p (new_step y) s x none = none
use_lacks p (write_step y e) s x none = used_lacks y.name s x (expr_lacks e (used y.name s) x none)
use_lacks p (free_step y) s x none = used_lacks y.name s x none
use_lacks p (call_step ys n es) s x none = exprs_lack es s x none
use_lacks p (while_step n) s x none = invariant_lacks (slice_get (loops_of p) n) s x none
use_lacks p (return_step es) s x none = exprs_lack es s x none
