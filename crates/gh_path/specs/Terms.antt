-- The terms of a condition, in order of first appearance, and its heap versions.
-- A number that no procedure or loop has (`None` of `Option Procedure` or `Option While`) is in no condition of a typed
-- program, so what is said of it doesn't matter.
use Rattle.std.specs.Prelude.{ℕ, ◌+◌, List, [], ◌∷◌, ◌++◌, length, map, filter, count_by, position, Option, Some, None}
use Rattle.std.specs.Prelude.{Bool, true, false, ◌==◌, ◌||◌, ◌&&◌, unwrap_or, cond, slice_get}
use Rattle.std.specs.List.{list_any}
use Rattle.std.specs.Str.{bytes_eq}
use Rattle.gh_ast.specs.declared.Operand.{Operand}
use Rattle.gh_ast.specs.declared.Operand.TheVariants.{Null, Var}
use Rattle.gh_ast.specs.declared.Expr.{Expr}
use Rattle.gh_ast.specs.declared.Expr.TheVariants.{Plain, Read}
use Rattle.gh_ast.specs.Plain.{Cond, compare, negation, conjunction, disjunction, Conds, no_conds, cond_first}
use Rattle.gh_ast.specs.Plain.{Assertion, empty, comparison, points_to, cell, segment, star, cases, Assertions}
use Rattle.gh_ast.specs.Plain.{no_assertions, assertion_first, Statement, set, new, call, if, while, Statements}
use Rattle.gh_ast.specs.Plain.{no_statements, statement_first, Procedure, Program}
use Rattle.gh_ast.specs.Programs.{Name, names, parameters_of, results_of, variable_names}
use Rattle.gh_path.specs.Graphs.{Check, access, callee_entry, loop_entry, return_check, loop_end, PathStep, access_step}
use Rattle.gh_path.specs.Graphs.{assume_step, set_step, new_step, write_step, free_step, call_step, while_step}
use Rattle.gh_path.specs.Graphs.{return_step, While, loops_of, Start, meets_at}
use Rattle.gh_path.specs.Paths.{Way}

-- null; the value of a number: that of a variable, or of a new cell's place or content; `next i x`: the successor of
-- the
-- term x in the version i of the heap
pub data Kind : Type 0 where
  null : Kind
  value : ℕ → Kind
  next : ℕ → ℕ → Kind

abbrev pub is_value : Kind → Bool
is_value (value n) = true
is_value _ = false

abbrev pub same_kind : Kind → Kind → Bool
same_kind null null = true
same_kind (value m) (value n) = m == n
same_kind (next i x) (next j y) = (i == j) && (x == y)
same_kind _ _ = false

-- the term of each variable that has one
abbrev pub Bindings : Type 0
Bindings = Name → Option ℕ

abbrev pub unbound : Bindings
unbound x = None

abbrev pub bound : Bindings → Name → ℕ → Bindings
bound b x t y = cond (bytes_eq y x) (Some t) (b y)

abbrev pub all_bound : Bindings → List Name → List ℕ → Bindings
all_bound b [] ts = b
all_bound b (x ∷ xs) [] = b
all_bound b (x ∷ xs) (t ∷ ts) = all_bound (bound b x t) xs ts

-- the terms so far, each at its place, what the variables are bound to, and the present version of the heap
pub record Terms : Type 0 where
  pub kinds : List Kind
  pub bindings : Bindings
  pub version : ℕ

abbrev pub terms : List Kind → Bindings → ℕ → Terms
terms ks b i = record { kinds = ks; bindings = b; version = i }

-- the place of a kind
abbrev pub place : Kind → List Kind → ℕ
place k ks = unwrap_or (position (same_kind k) ks) (length ks)

-- a kind that isn't listed is added last
abbrev pub added : Kind → List Kind → List Kind
added k ks = cond (list_any (same_kind k) ks) ks (ks ++ k ∷ [])

-- values are numbered in the order in which they are made
abbrev pub with_value : List Kind → List Kind
with_value ks = ks ++ value (count_by is_value ks) ∷ []

-- a variable that is used and has no term gets a new value
abbrev pub used_as : Name → Option ℕ → Terms → Terms
used_as x (Some t) s = s
used_as x None s = terms (with_value s.kinds) (bound s.bindings x (length s.kinds)) s.version

abbrev pub used : Name → Terms → Terms
used x s = used_as x (s.bindings x) s

abbrev pub term_of : Name → Terms → ℕ
term_of x s = unwrap_or (s.bindings x) 0

-- the successor of a variable's term in the present version is listed
abbrev pub followed : Name → Terms → Terms
followed x s = terms (added (next s.version (term_of x s)) s.kinds) s.bindings s.version

abbrev pub operand_used : Operand → Terms → Terms
operand_used (Null p) s = s
operand_used (Var o) s = used o.name s

abbrev pub operand_term : Operand → Terms → ℕ
operand_term (Null p) s = 0
operand_term (Var o) s = term_of o.name s

abbrev pub expr_used : Expr → Terms → Terms
expr_used (Plain o) s = operand_used o s
expr_used (Read o) s = followed o.name (used o.name s)

abbrev pub expr_term : Expr → Terms → ℕ
expr_term (Plain o) s = operand_term o s
expr_term (Read o) s = place (next s.version (term_of o.name s)) s.kinds

abbrev pub exprs_used : List Expr → Terms → Terms
exprs_used [] s = s
exprs_used (e ∷ es) s = exprs_used es (expr_used e s)

-- a test is walked from left to right
abbrev mutual
  pub cond_walked : Cond → Terms → Terms
  cond_walked (compare l e r) s = expr_used r (expr_used l s)
  cond_walked (negation t) s = cond_walked t s
  cond_walked (conjunction ts) s = conds_walked ts s
  cond_walked (disjunction ts) s = conds_walked ts s

  pub conds_walked : Conds → Terms → Terms
  conds_walked no_conds s = s
  conds_walked (cond_first t ts) s = conds_walked ts (cond_walked t s)

-- an assertion is walked from left to right, a test of cases before both parts; a cell's successor is a term
abbrev mutual
  pub walked : Assertion → Terms → Terms
  walked empty s = s
  walked (comparison l e r) s = operand_used r (operand_used l s)
  walked (points_to x y) s = operand_used y (followed x.name (used x.name s))
  walked (cell x) s = followed x.name (used x.name s)
  walked (segment x y) s = operand_used y (operand_used x s)
  walked (star fs) s = all_walked fs s
  walked (cases t f g) s = walked g (walked f (cond_walked t s))

  pub all_walked : Assertions → Terms → Terms
  all_walked no_assertions s = s
  all_walked (assertion_first f fs) s = all_walked fs (walked f s)

-- alternatives are walked in order
abbrev pub each_walked : List Assertion → Terms → Terms
each_walked [] s = s
each_walked (f ∷ fs) s = each_walked fs (walked f s)

-- the next version of the heap
abbrev pub moved_on : Terms → Terms
moved_on s = terms s.kinds s.bindings (s.version + 1)

abbrev pub rebound : Terms → Bindings → Terms
rebound s b = terms s.kinds b s.version

-- one new value for each of the variables, in order
abbrev pub renewed : List Name → Terms → Terms
renewed [] s = s
renewed (x ∷ xs) s = renewed xs (terms (with_value s.kinds) (bound s.bindings x (length s.kinds)) s.version)

-- the statement assigns the variable, itself or in a block of it
abbrev mutual
  pub assigns : Statement → Name → Bool
  assigns (set x e) y = bytes_eq y x.name
  assigns (new x) y = bytes_eq y x.name
  assigns (call xs f es) y = list_any (bytes_eq y) (names xs)
  assigns (if t a c b d) y = some_assigns a y || some_assigns b y
  assigns (while at t i body close) y = some_assigns body y
  assigns _ y = false

  pub some_assigns : Statements → Name → Bool
  some_assigns no_statements y = false
  some_assigns (statement_first s ss) y = assigns s y || some_assigns ss y

-- the callee's parameters are bound to the arguments' terms, and nothing else is
abbrev pub bound_inside : Procedure → List ℕ → Bindings
bound_inside p ts = all_bound unbound (parameters_of p) ts

-- what the callee needs is walked; then, in the next version, its results get new values, and each alternative of what
-- it gives is walked. `outside` are the caller's bindings, in which the targets get the results' terms
abbrev pub answered_inside : Procedure → List Name → Bindings → Terms → Terms
answered_inside p xs outside s =
    let after = each_walked p.gives (renewed (results_of p) (moved_on (walked p.needs s))) in
    rebound after (all_bound outside xs (map (λ x. term_of x after) (results_of p)))

abbrev pub call_walked : Option Procedure → List Name → List ℕ → Terms → Terms
call_walked None xs ts s = s
call_walked (Some p) xs ts s = answered_inside p xs s.bindings (rebound s (bound_inside p ts))

abbrev pub exprs_terms : List Expr → Terms → List ℕ
exprs_terms es s = map (λ e. expr_term e s) es

-- the loop's invariant is walked; then, in the next version, those of the variables xs that its body assigns get new
-- values, and the invariant is walked again
abbrev pub loop_walked : Option While → List Name → Terms → Terms
loop_walked None xs s = s
loop_walked (Some l) xs s =
    walked l.invariant (renewed (filter (some_assigns l.body) xs) (moved_on (walked l.invariant s)))

-- the terms after a step of a path of the procedure proc
abbrev pub step_walked : Program → Procedure → PathStep → Terms → Terms
step_walked P proc (access_step o) s = followed o.name (used o.name s)
step_walked P proc (assume_step l e r) s = expr_used r (expr_used l s)
step_walked P proc (set_step x e) s = let t = expr_used e s in rebound t (bound t.bindings x.name (expr_term e t))
step_walked P proc (new_step x) s =
    terms (with_value (with_value s.kinds)) (bound s.bindings x.name (length s.kinds)) (s.version + 1)
step_walked P proc (write_step x e) s = moved_on (expr_used e (used x.name s))
step_walked P proc (free_step x) s = moved_on (used x.name s)
step_walked P proc (call_step ys n es) s = let t = exprs_used es s in
    call_walked (slice_get P.procedures n) (names ys) (exprs_terms es t) t
step_walked P proc (while_step n) s = loop_walked (slice_get (loops_of proc) n) (variable_names proc) s
step_walked P proc (return_step es) s = let t = exprs_used es s in
    rebound t (all_bound t.bindings (results_of proc) (exprs_terms es t))

abbrev pub steps_walked : Program → Procedure → List PathStep → Terms → Terms
steps_walked P proc [] s = s
steps_walked P proc (x ∷ xs) s = steps_walked P proc xs (step_walked P proc x s)

abbrev pub entry_walked : Option Procedure → List ℕ → Terms → Terms
entry_walked None ts s = s
entry_walked (Some p) ts s = walked p.needs (rebound s (bound_inside p ts))

abbrev pub invariant_walked : Option While → Terms → Terms
invariant_walked None s = s
invariant_walked (Some l) s = walked l.invariant s

-- the terms of the check, in the last version
abbrev pub check_walked : Program → Procedure → Check → Terms → Terms
check_walked P proc (access o) s = used o.name s
check_walked P proc (callee_entry at n es) s = let t = exprs_used es s in
    entry_walked (slice_get P.procedures n) (exprs_terms es t) t
check_walked P proc (loop_entry at n) s = invariant_walked (slice_get (loops_of proc) n) s
check_walked P proc (return_check at) s = each_walked proc.gives s
check_walked P proc (loop_end at n) s = invariant_walked (slice_get (loops_of proc) n) s

-- null alone, no variable with a term, the first version
abbrev pub no_terms : Terms
no_terms = terms (null ∷ []) unbound 0

-- the start assertion, the steps, and the check of a way of the procedure proc
abbrev pub way_walked : Program → Procedure → Start → Way → Terms
way_walked P proc a w = check_walked P proc w.check (steps_walked P proc w.steps (walked (meets_at proc a) no_terms))

-- the kinds of the terms: that of the term t stands at the place t
abbrev pub terms_of : Program → Procedure → Start → Way → List Kind
terms_of P proc a w = (way_walked P proc a w).kinds

-- how many versions of the heap there are
abbrev pub versions_of : Program → Procedure → Start → Way → ℕ
versions_of P proc a w = (way_walked P proc a w).version + 1
