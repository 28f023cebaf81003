-- A step in two parts: the variables that it uses get terms, and then it is done.
use Rattle.std.specs.Prelude.{◌≡◌, ℕ, ◌+◌, List, [], ◌∷◌, length, filter, Option, Some, None, slice_get}
use Rattle.gh_ast.specs.Plain.{Assertion, Procedure, Program}
use Rattle.gh_ast.specs.Programs.{Name, names, results_of, variable_names}
use Rattle.gh_path.specs.Graphs as path
use Rattle.gh_path.specs.Graphs.{While, loops_of}
use Rattle.gh_path.specs.Terms.{Bindings, bound, all_bound, Terms, terms, with_value, term_of, followed, expr_term}
use Rattle.gh_path.specs.Terms.{exprs_terms, walked, moved_on, rebound, renewed, some_assigns, call_walked, step_walked}
use Rattle.gh_symb.specs.Symbolic as plain
use Rattle.gh_symb.specs.Symbolic.{under, call_parts, term_step, step_used, either_term}

-- an assertion under bindings
abbrev pub under_bindings : Assertion → Bindings → ℕ → plain.Under
under_bindings f b i = record { assertion = f; binding = b; version = i }

-- a loop whose invariant is walked: the terms after it, and how it is encoded
abbrev pub loop_done : Option While → List Name → Terms → Terms
loop_done None xs t = t
loop_done (Some l) xs t = walked l.invariant (renewed (filter (some_assigns l.body) xs) (moved_on t))

abbrev pub loop_encoding : Option While → List Name → Terms → plain.TermStep
loop_encoding None xs t = plain.same_step
loop_encoding (Some l) xs t =
    plain.part_step (under_bindings l.invariant t.bindings t.version)
    (under l.invariant (renewed (filter (some_assigns l.body) xs) (moved_on t)) ∷ [])

-- the terms after a step whose variables are used
abbrev pub step_done : Program → Procedure → path.PathStep → Terms → Terms
step_done P proc (path.access_step o) t = followed o.name t
step_done P proc (path.assume_step l e r) t = t
step_done P proc (path.set_step x e) t = rebound t (bound t.bindings x.name (expr_term e t))
step_done P proc (path.new_step x) t =
    terms (with_value (with_value t.kinds)) (bound t.bindings x.name (length t.kinds)) (t.version + 1)
step_done P proc (path.write_step x e) t = moved_on t
step_done P proc (path.free_step x) t = moved_on t
step_done P proc (path.call_step ys n es) t = call_walked (slice_get P.procedures n) (names ys) (exprs_terms es t) t
step_done P proc (path.while_step n) t = loop_done (slice_get (loops_of proc) n) (variable_names proc) t
step_done P proc (path.return_step es) t = rebound t (all_bound t.bindings (results_of proc) (exprs_terms es t))

-- a step over terms, once its variables are used
abbrev pub step_encoding : Program → Procedure → path.PathStep → Terms → plain.TermStep
step_encoding P proc (path.access_step o) t = plain.access_step (term_of o.name t)
step_encoding P proc (path.assume_step l e r) t = plain.assume_step (expr_term l t) e (expr_term r t)
step_encoding P proc (path.set_step x e) t = plain.same_step
step_encoding P proc (path.new_step x) t = plain.new_step (length t.kinds) (length t.kinds + 1)
step_encoding P proc (path.write_step x e) t = plain.write_step (term_of x.name t) (expr_term e t)
step_encoding P proc (path.free_step x) t = plain.free_step (term_of x.name t)
step_encoding P proc (path.call_step ys n es) t = call_parts (slice_get P.procedures n) (exprs_terms es t) t
step_encoding P proc (path.while_step n) t = loop_encoding (slice_get (loops_of proc) n) (variable_names proc) t
step_encoding P proc (path.return_step es) t = plain.same_step

-- both parts, one after the other, are the whole step
abbrev pub StepsHaveTwoParts : Type 0
StepsHaveTwoParts = (P : Program) (proc : Procedure) (x : path.PathStep) (s : Terms) → let t = step_used proc x s in
    (step_walked P proc x s ≡ step_done P proc x t) × (term_step P proc x s ≡ step_encoding P proc x t)

-- these terms, and others where there are none
abbrev pub both : Bindings → Bindings → Bindings
both b c x = either_term (b x) (c x)

-- a variable that had no term and has one now, else what is known
abbrev pub learned : Option ℕ → Option ℕ → Option ℕ → Option ℕ
learned (Some t) now known = known
learned None (Some t) known = Some t
learned None None known = known

-- x is bound to t, unless it had a term before
abbrev pub bound_unless : Option ℕ → Bindings → Name → ℕ → Bindings
bound_unless (Some u) b x t = b
bound_unless None b x t = bound b x t
