-- A condition over terms: its start, its steps and its check over terms, and the terms of the variables at each state.
-- `symbolic_of P p c` is the condition c over terms, which is one of the procedure p of the program P.
-- A number that no procedure or loop has (`None` of `Option Procedure` or `Option While`) is in no condition of a typed
-- program, so what is said of it doesn't matter.
use Rattle.std.specs.Prelude.{ℕ, ◌+◌, List, [], ◌∷◌, length, filter, Bool, Option, Some, None, slice_get}
use Rattle.gh_ast.specs.Plain.{Assertion, Procedure, Program}
use Rattle.gh_ast.specs.Programs.{Name, results_of, variable_names}
use Rattle.gh_path.specs.Graphs as path
use Rattle.gh_path.specs.Graphs.{While, loops_of, Start, meets_at}
use Rattle.gh_path.specs.Conditions.{Condition}
use Rattle.gh_path.specs.Terms.{Kind, Bindings, Terms, used, term_of, expr_used, expr_term, exprs_used, exprs_terms}
use Rattle.gh_path.specs.Terms.{walked, each_walked, moved_on, rebound, renewed, some_assigns, bound_inside, no_terms}
use Rattle.gh_path.specs.Terms.{invariant_walked, step_walked, steps_walked, terms_of, versions_of}

-- an assertion in a version of the heap, and the terms of its variables
pub record Under : Type 0 where
  pub assertion : Assertion
  pub binding : Bindings
  pub version : ℕ

-- `assume_step l e r`: l and r are equal where e is true, and differ where it is false; `write_step x e`: the cell at x
-- gets
-- the content e; `new_step l c`: a cell at l with the content c; `part_step`: what is taken from the heap, and the
-- alternatives
-- of what is put in its place
pub data TermStep : Type 0 where
  access_step : ℕ → TermStep
  assume_step : ℕ → Bool → ℕ → TermStep
  same_step : TermStep
  write_step : ℕ → ℕ → TermStep
  new_step : ℕ → ℕ → TermStep
  free_step : ℕ → TermStep
  part_step : Under → List Under → TermStep

-- `access`: the term is allocated; `sub`: some part of the heap meets the assertion; `whole`: the whole heap meets one
-- of the assertions
pub data TermCheck : Type 0 where
  access : ℕ → TermCheck
  sub : Under → TermCheck
  whole : List Under → TermCheck

-- the assertion once its variables have terms
abbrev pub under : Assertion → Terms → Under
under f s = record { assertion = f; binding = (walked f s).bindings; version = s.version }

-- alternatives, each once its variables have terms
abbrev pub each_under : List Assertion → Terms → List Under
each_under [] s = []
each_under (f ∷ fs) s = under f s ∷ each_under fs (walked f s)

-- a procedure's contract, its parameters bound to the terms of the arguments; its results get new values in between
abbrev pub call_parts : Option Procedure → List ℕ → Terms → TermStep
call_parts None ts s = same_step
call_parts (Some p) ts s =
    let inside = rebound s (bound_inside p ts) in
    part_step (under p.needs inside) (each_under p.gives (renewed (results_of p) (moved_on (walked p.needs inside))))

-- a loop's invariant, before it and after it; the variables of xs that its body assigns get new values in between
abbrev pub loop_parts : Option While → List Name → Terms → TermStep
loop_parts None xs s = same_step
loop_parts (Some l) xs s =
    part_step (under l.invariant s)
    (under l.invariant (renewed (filter (some_assigns l.body) xs) (moved_on (walked l.invariant s))) ∷ [])

-- a step of a path of the procedure proc over terms, from the terms before it
abbrev pub term_step : Program → Procedure → path.PathStep → Terms → TermStep
term_step P proc (path.access_step o) s = access_step (term_of o.name (used o.name s))
term_step P proc (path.assume_step l e r) s = let t = expr_used r (expr_used l s) in
    assume_step (expr_term l t) e (expr_term r t)
term_step P proc (path.set_step x e) s = same_step
term_step P proc (path.new_step x) s = new_step (length s.kinds) (length s.kinds + 1)
term_step P proc (path.write_step x e) s = let t = expr_used e (used x.name s) in
    write_step (term_of x.name t) (expr_term e t)
term_step P proc (path.free_step x) s = free_step (term_of x.name (used x.name s))
term_step P proc (path.call_step ys n es) s = let t = exprs_used es s in
    call_parts (slice_get P.procedures n) (exprs_terms es t) t
term_step P proc (path.while_step n) s = loop_parts (slice_get (loops_of proc) n) (variable_names proc) s
term_step P proc (path.return_step es) s = same_step

abbrev pub term_steps : Program → Procedure → List path.PathStep → Terms → List TermStep
term_steps P proc [] s = []
term_steps P proc (x ∷ xs) s = term_step P proc x s ∷ term_steps P proc xs (step_walked P proc x s)

-- what is asked where a procedure is called, its parameters bound to the terms of the arguments
abbrev pub needs_under : Option Procedure → List ℕ → Terms → TermCheck
needs_under None ts s = whole []
needs_under (Some p) ts s = sub (under p.needs (rebound s (bound_inside p ts)))

-- what is asked where a loop is entered, and where its body ends
abbrev pub entered_under : Option While → Terms → TermCheck
entered_under None s = whole []
entered_under (Some l) s = sub (under l.invariant s)

abbrev pub ended_under : Option While → Terms → TermCheck
ended_under None s = whole []
ended_under (Some l) s = whole (under l.invariant s ∷ [])

-- a check of the procedure proc over terms, from the terms before it
abbrev pub term_check : Program → Procedure → path.Check → Terms → TermCheck
term_check P proc (path.access o) s = access (term_of o.name (used o.name s))
term_check P proc (path.callee_entry at n es) s = let t = exprs_used es s in
    needs_under (slice_get P.procedures n) (exprs_terms es t) t
term_check P proc (path.loop_entry at n) s = entered_under (slice_get (loops_of proc) n) s
term_check P proc (path.return_check at) s = whole (each_under proc.gives s)
term_check P proc (path.loop_end at n) s = ended_under (slice_get (loops_of proc) n) s

-- the variables that a step uses have terms, and nothing is assigned yet
abbrev pub step_used : Procedure → path.PathStep → Terms → Terms
step_used p (path.access_step o) s = used o.name s
step_used p (path.assume_step l e r) s = expr_used r (expr_used l s)
step_used p (path.set_step x e) s = expr_used e s
step_used p (path.new_step x) s = s
step_used p (path.write_step x e) s = expr_used e (used x.name s)
step_used p (path.free_step x) s = used x.name s
step_used p (path.call_step ys n es) s = exprs_used es s
step_used p (path.while_step n) s = invariant_walked (slice_get (loops_of p) n) s
step_used p (path.return_step es) s = exprs_used es s

-- the variables that a check uses have terms
abbrev pub check_used : Procedure → path.Check → Terms → Terms
check_used p (path.access o) s = used o.name s
check_used p (path.callee_entry at n es) s = exprs_used es s
check_used p (path.loop_entry at n) s = invariant_walked (slice_get (loops_of p) n) s
check_used p (path.return_check at) s = each_walked p.gives s
check_used p (path.loop_end at n) s = invariant_walked (slice_get (loops_of p) n) s

-- the term that a step uses; none where the step assigns the variable without using it; else what comes later
abbrev pub used_first : Option ℕ → Option ℕ → Option ℕ → Option ℕ
used_first (Some t) assigned later = Some t
used_first None (Some t) later = None
used_first None None later = later

-- the term that a variable gets at its first use; none where it is assigned before
abbrev pub first_use : Program → Procedure → List path.PathStep → path.Check → Terms → Bindings
first_use P proc [] k s y = (check_used proc k s).bindings y
first_use P proc (x ∷ xs) k s y =
    let t = step_walked P proc x s in
    used_first ((step_used proc x s).bindings y) (t.bindings y) (first_use P proc xs k t y)

-- what a variable got before, else what it gets at its first use
abbrev pub either_term : Option ℕ → Option ℕ → Option ℕ
either_term (Some t) later = Some t
either_term None later = later

-- the terms of the variables at each state
abbrev pub state_bindings : Program → Procedure → List path.PathStep → path.Check → Terms → List Bindings
state_bindings P proc [] k s = (λ y. either_term (s.bindings y) (first_use P proc [] k s y)) ∷ []
state_bindings P proc (x ∷ xs) k s =
    (λ y. either_term (s.bindings y) (first_use P proc (x ∷ xs) k s y))
    ∷ state_bindings P proc xs k (step_walked P proc x s)

pub record Symbolic : Type 0 where
  pub terms : List Kind
  pub versions : ℕ
  pub start : Under
  pub steps : List TermStep
  pub check : TermCheck
  pub bindings : List Bindings

-- the terms once the start assertion is walked
abbrev pub begins : Procedure → Start → Terms
begins p a = walked (meets_at p a) no_terms

abbrev pub symbolic_of : Program → Procedure → Condition → Symbolic
symbolic_of P proc c =
    let first = begins proc c.start in
    record {
      terms = terms_of P proc c.start c.way;
      versions = versions_of P proc c.start c.way;
      start = under (meets_at proc c.start) no_terms;
      steps = term_steps P proc c.way.steps first;
      check = term_check P proc c.way.check (steps_walked P proc c.way.steps first);
      bindings = state_bindings P proc c.way.steps c.way.check first;
    }
