-- A walk only adds terms.
use Rattle.std.specs.Prelude.{ℕ, ◌≤◌, List, [], ◌∷◌, ◌++◌, length, Option, Some, None, Bool, true, false, cond, filter}
use Rattle.std.specs.Prelude.{slice_get}
use Rattle.std.specs.List.{list_any}
use Rattle.std.proofs.Common.{arith}
use Rattle.std.proofs.lemmas.List.{length-append}
use Rattle.gh_ast.specs.declared.Operand.{Operand}
use Rattle.gh_ast.specs.declared.Operand.TheVariants.{Null, Var}
use Rattle.gh_ast.specs.declared.Expr.{Expr}
use Rattle.gh_ast.specs.declared.Expr.TheVariants.{Plain, Read}
use Rattle.gh_ast.specs.Plain.{Cond, compare, negation, conjunction, disjunction, Conds, no_conds, cond_first}
use Rattle.gh_ast.specs.Plain.{Assertion, empty, comparison, points_to, cell, segment, star, cases, Assertions}
use Rattle.gh_ast.specs.Plain.{no_assertions, assertion_first, Procedure, Program}
use Rattle.gh_ast.specs.Programs.{Name, names, results_of, variable_names}
use Rattle.gh_path.specs.Graphs.{Check, access, callee_entry, loop_entry, return_check, loop_end, PathStep, access_step}
use Rattle.gh_path.specs.Graphs.{assume_step, set_step, new_step, write_step, free_step, call_step, while_step}
use Rattle.gh_path.specs.Graphs.{return_step, While, loops_of}
use Rattle.gh_path.specs.Terms.{Kind, next, same_kind, added, with_value, Bindings, bound, Terms, terms, used, used_as}
use Rattle.gh_path.specs.Terms.{term_of, followed, operand_used, expr_used, exprs_used, exprs_terms, cond_walked}
use Rattle.gh_path.specs.Terms.{conds_walked, walked, all_walked, each_walked, moved_on, rebound, renewed, bound_inside}
use Rattle.gh_path.specs.Terms.{answered_inside, call_walked, loop_walked, step_walked, steps_walked, entry_walked}
use Rattle.gh_path.specs.Terms.{invariant_walked, check_walked, some_assigns}

abbrev pub size : Terms → ℕ
size s = length s.kinds

pub onto : {a b c : ℕ} → a ≤ b → b ≤ c → a ≤ c
onto h k = omega (arith, h, k)

pub same : (a : ℕ) → a ≤ a
same a = omega arith

pub value_grows : (ks : List Kind) → length ks ≤ length (with_value ks)
value_grows ks = rw (length-append ks) (omega arith)

added_grows : (k : Kind) (ks : List Kind) → length ks ≤ length (added k ks)
added_grows k ks = by_test (list_any (same_kind k) ks)
  where
    by_test : (b : Bool) → length ks ≤ length (cond b ks (ks ++ k ∷ []))
    by_test true = same (length ks)
    by_test false = rw (length-append ks) (omega arith)

used_grows : (x : Name) (s : Terms) → size s ≤ size (used x s)
used_grows x s = by_binding (s.bindings x)
  where
    by_binding : (o : Option ℕ) → size s ≤ size (used_as x o s)
    by_binding (Some t) = same (size s)
    by_binding None = value_grows s.kinds

pub followed_grows : (x : Name) (s : Terms) → size s ≤ size (followed x s)
followed_grows x s = added_grows (next s.version (term_of x s)) s.kinds

visited_grows : (x : Name) (s : Terms) → size s ≤ size (followed x (used x s))
visited_grows x s = onto (used_grows x s) (followed_grows x (used x s))

operand_grows : (o : Operand) (s : Terms) → size s ≤ size (operand_used o s)
operand_grows (Null p) s = same (size s)
operand_grows (Var o) s = used_grows o.name s

expr_grows : (e : Expr) (s : Terms) → size s ≤ size (expr_used e s)
expr_grows (Plain o) s = operand_grows o s
expr_grows (Read o) s = visited_grows o.name s

exprs_grow : (es : List Expr) (s : Terms) → size s ≤ size (exprs_used es s)
exprs_grow [] s = same (size s)
exprs_grow (e ∷ es) s = onto (expr_grows e s) (exprs_grow es (expr_used e s))

mutual
  test_grows : (t : Cond) (s : Terms) → size s ≤ size (cond_walked t s)
  test_grows (compare l e r) s = onto (expr_grows l s) (expr_grows r (expr_used l s))
  test_grows (negation t) s = test_grows t s
  test_grows (conjunction ts) s = tests_grow ts s
  test_grows (disjunction ts) s = tests_grow ts s

  tests_grow : (ts : Conds) (s : Terms) → size s ≤ size (conds_walked ts s)
  tests_grow no_conds s = same (size s)
  tests_grow (cond_first t ts) s = onto (test_grows t s) (tests_grow ts (cond_walked t s))

mutual
  pub walked_grows : (f : Assertion) (s : Terms) → size s ≤ size (walked f s)
  walked_grows empty s = same (size s)
  walked_grows (comparison l e r) s = onto (operand_grows l s) (operand_grows r (operand_used l s))
  walked_grows (points_to x y) s = onto (visited_grows x.name s) (operand_grows y (followed x.name (used x.name s)))
  walked_grows (cell x) s = visited_grows x.name s
  walked_grows (segment x y) s = onto (operand_grows x s) (operand_grows y (operand_used x s))
  walked_grows (star fs) s = all_grow fs s
  walked_grows (cases t f g) s =
      onto (test_grows t s) (onto (walked_grows f (cond_walked t s)) (walked_grows g (walked f (cond_walked t s))))

  all_grow : (fs : Assertions) (s : Terms) → size s ≤ size (all_walked fs s)
  all_grow no_assertions s = same (size s)
  all_grow (assertion_first f fs) s = onto (walked_grows f s) (all_grow fs (walked f s))

each_grows : (fs : List Assertion) (s : Terms) → size s ≤ size (each_walked fs s)
each_grows [] s = same (size s)
each_grows (f ∷ fs) s = onto (walked_grows f s) (each_grows fs (walked f s))

pub renewed_grows : (xs : List Name) (s : Terms) → size s ≤ size (renewed xs s)
renewed_grows [] s = same (size s)
renewed_grows (x ∷ xs) s =
    onto (value_grows s.kinds)
    (renewed_grows xs (terms (with_value s.kinds) (bound s.bindings x (length s.kinds)) s.version))

inside_grows : (p : Procedure) (xs : List Name) (b : Bindings) (s : Terms) → size s ≤ size (answered_inside p xs b s)
inside_grows p xs b s =
    onto (walked_grows p.needs s)
    (onto (renewed_grows (results_of p) (moved_on (walked p.needs s)))
    (each_grows p.gives (renewed (results_of p) (moved_on (walked p.needs s)))))

pub call_grows : (o : Option Procedure) (xs : List Name) (ts : List ℕ) (s : Terms)
    → size s ≤ size (call_walked o xs ts s)
call_grows None xs ts s = same (size s)
call_grows (Some p) xs ts s = inside_grows p xs s.bindings (rebound s (bound_inside p ts))

loop_grows : (o : Option While) (xs : List Name) (s : Terms) → size s ≤ size (loop_walked o xs s)
loop_grows None xs s = same (size s)
loop_grows (Some l) xs s =
    let t = moved_on (walked l.invariant s) in
    onto (walked_grows l.invariant s)
    (onto (renewed_grows (filter (some_assigns l.body) xs) t)
    (walked_grows l.invariant (renewed (filter (some_assigns l.body) xs) t)))

step_grows : (P : Program) (proc : Procedure) (x : PathStep) (s : Terms) → size s ≤ size (step_walked P proc x s)
step_grows P proc (access_step o) s = visited_grows o.name s
step_grows P proc (assume_step l e r) s = onto (expr_grows l s) (expr_grows r (expr_used l s))
step_grows P proc (set_step x e) s = expr_grows e s
step_grows P proc (new_step x) s = onto (value_grows s.kinds) (value_grows (with_value s.kinds))
step_grows P proc (write_step x e) s = onto (used_grows x.name s) (expr_grows e (used x.name s))
step_grows P proc (free_step x) s = used_grows x.name s
step_grows P proc (call_step ys n es) s =
    let t = exprs_used es s in
    onto (exprs_grow es s) (call_grows (slice_get P.procedures n) (names ys) (exprs_terms es t) t)
step_grows P proc (while_step n) s = loop_grows (slice_get (loops_of proc) n) (variable_names proc) s
step_grows P proc (return_step es) s = exprs_grow es s

pub steps_grow : (P : Program) (proc : Procedure) (xs : List PathStep) (s : Terms)
    → size s ≤ size (steps_walked P proc xs s)
steps_grow P proc [] s = same (size s)
steps_grow P proc (x ∷ xs) s = onto (step_grows P proc x s) (steps_grow P proc xs (step_walked P proc x s))

pub entry_grows : (o : Option Procedure) (ts : List ℕ) (s : Terms) → size s ≤ size (entry_walked o ts s)
entry_grows None ts s = same (size s)
entry_grows (Some p) ts s = walked_grows p.needs (rebound s (bound_inside p ts))

invariant_grows : (o : Option While) (s : Terms) → size s ≤ size (invariant_walked o s)
invariant_grows None s = same (size s)
invariant_grows (Some l) s = walked_grows l.invariant s

pub check_grows : (P : Program) (proc : Procedure) (c : Check) (s : Terms) → size s ≤ size (check_walked P proc c s)
check_grows P proc (access o) s = used_grows o.name s
check_grows P proc (callee_entry at n es) s =
    let t = exprs_used es s in
    onto (exprs_grow es s) (entry_grows (slice_get P.procedures n) (exprs_terms es t) t)
check_grows P proc (loop_entry at n) s = invariant_grows (slice_get (loops_of proc) n) s
check_grows P proc (return_check at) s = each_grows proc.gives s
check_grows P proc (loop_end at n) s = invariant_grows (slice_get (loops_of proc) n) s
