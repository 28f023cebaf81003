-- The terms of the variables at the states of a condition are those of the condition.
use Rattle.std.specs.Prelude.{ℕ, ◌<◌, ◌≤◌, List, [], ◌∷◌, filter, length, Option, Some, None, unwrap_or, All, slice_get}
use Rattle.std.proofs.Common.{arith}
use Rattle.std.proofs.lemmas.List.Elements.{All-nil, All-cons}
use Rattle.gh_ast.specs.Plain.{Procedure, Program}
use Rattle.gh_ast.specs.Programs.{Name, names, variable_names}
use Rattle.gh_path.specs.Graphs as path
use Rattle.gh_path.specs.Graphs.{While, loops_of, meets_at}
use Rattle.gh_path.specs.Conditions.{Condition}
use Rattle.gh_path.specs.Terms.{Bindings, Terms, with_value, used, expr_used, exprs_used, exprs_terms, walked, moved_on}
use Rattle.gh_path.specs.Terms.{renewed, some_assigns, loop_walked, invariant_walked, step_walked, steps_walked}
use Rattle.gh_path.specs.Terms.{check_walked, terms_of, no_terms}
use Rattle.gh_symb.specs.Symbolic.{step_used, check_used, used_first, first_use, either_term, state_bindings, begins}
use Rattle.gh_symb.specs.Symbolic.{symbolic_of}
use Rattle.gh_symb.specs.Formulas.{variables}
use Rattle.gh_symb.proofs.GrowLemmas.{onto, same, value_grows, followed_grows, walked_grows, renewed_grows, call_grows}
use Rattle.gh_symb.proofs.GrowLemmas.{entry_grows}
use Rattle.gh_symb.proofs.SoundLemmas.{Sound, Extends, extends_same, extends_onto, used_extends, expr_extends}
use Rattle.gh_symb.proofs.SoundLemmas.{exprs_extend, walked_extends}
use Rattle.gh_symb.proofs.StepsInside.{each_extends, variables_there, step_goes, steps_go, check_goes, no_terms_sound}

-- the terms of the variables are some of n terms
abbrev pub IsThere : ℕ → Bindings → Type 0
IsThere n b = (x : Name) → (variables b x).0 < n

pub invariant_extends : (o : Option While) (s : Terms) → Extends s (invariant_walked o s)
invariant_extends None s = extends_same s
invariant_extends (Some l) s = walked_extends l.invariant s

pub use_extends : (p : Procedure) (x : path.PathStep) (s : Terms) → Extends s (step_used p x s)
use_extends p (path.access_step o) s = used_extends o.name s
use_extends p (path.assume_step l e r) s = extends_onto (expr_extends l s) (expr_extends r (expr_used l s))
use_extends p (path.set_step x e) s = expr_extends e s
use_extends p (path.new_step x) s = extends_same s
use_extends p (path.write_step x e) s = extends_onto (used_extends x.name s) (expr_extends e (used x.name s))
use_extends p (path.free_step x) s = used_extends x.name s
use_extends p (path.call_step ys n es) s = exprs_extend es s
use_extends p (path.while_step n) s = invariant_extends (slice_get (loops_of p) n) s
use_extends p (path.return_step es) s = exprs_extend es s

loop_grows : (o : Option While) (xs : List Name) (s : Terms)
    → length (invariant_walked o s).kinds ≤ length (loop_walked o xs s).kinds
loop_grows None xs s = same _
loop_grows (Some l) xs s =
    let t = moved_on (walked l.invariant s) in
    onto (renewed_grows (filter (some_assigns l.body) xs) t)
    (walked_grows l.invariant (renewed (filter (some_assigns l.body) xs) t))

-- what a step does once its variables are used adds terms
rest_grows : (P : Program) (proc : Procedure) (x : path.PathStep) (s : Terms)
    → length (step_used proc x s).kinds ≤ length (step_walked P proc x s).kinds
rest_grows P proc (path.access_step o) s = followed_grows o.name (used o.name s)
rest_grows P proc (path.assume_step l e r) s = same _
rest_grows P proc (path.set_step x e) s = same _
rest_grows P proc (path.new_step x) s = onto (value_grows s.kinds) (value_grows (with_value s.kinds))
rest_grows P proc (path.write_step x e) s = same _
rest_grows P proc (path.free_step x) s = same _
rest_grows P proc (path.call_step ys n es) s = let t = exprs_used es s in
    call_grows (slice_get P.procedures n) (names ys) (exprs_terms es t) t
rest_grows P proc (path.while_step n) s = loop_grows (slice_get (loops_of proc) n) (variable_names proc) s
rest_grows P proc (path.return_step es) s = same _

ask_extends : (p : Procedure) (k : path.Check) (s : Terms) → Extends s (check_used p k s)
ask_extends p (path.access o) s = used_extends o.name s
ask_extends p (path.callee_entry at n es) s = exprs_extend es s
ask_extends p (path.loop_entry at n) s = invariant_extends (slice_get (loops_of p) n) s
ask_extends p (path.return_check at) s = each_extends p.gives s
ask_extends p (path.loop_end at n) s = invariant_extends (slice_get (loops_of p) n) s

ask_grows : (P : Program) (proc : Procedure) (k : path.Check) (s : Terms)
    → length (check_used proc k s).kinds ≤ length (check_walked P proc k s).kinds
ask_grows P proc (path.access o) s = same _
ask_grows P proc (path.callee_entry at n es) s = let t = exprs_used es s in
    entry_grows (slice_get P.procedures n) (exprs_terms es t) t
ask_grows P proc (path.loop_entry at n) s = same _
ask_grows P proc (path.return_check at) s = same _
ask_grows P proc (path.loop_end at n) s = same _

first_there : (n : ℕ) (P : Program) (proc : Procedure) (xs : List path.PathStep) (k : path.Check) (s : Terms) → Sound s
    → length (check_walked P proc k (steps_walked P proc xs s)).kinds ≤ n → IsThere n (first_use P proc xs k s)
first_there n P proc [] k s h l y =
    let grows = ask_grows P proc k s in
    variables_there n (check_used proc k s) ((ask_extends proc k s).sound h) (omega (arith, l, grows)) y
first_there n P proc (x ∷ xs) k s h l y =
    let t = step_walked P proc x s in
    let g = step_goes P proc x s h in
    let rest = steps_go P proc xs t (g.sound h) in
    let last = check_goes P proc k (steps_walked P proc xs t) (rest.sound (g.sound h)) in
    let grows = rest_grows P proc x s in
    let size = rest.size in
    let last_size = last.size in
    by_use ((step_used proc x s).bindings y) (t.bindings y) (first_use P proc xs k t y)
    (variables_there n (step_used proc x s) ((use_extends proc x s).sound h) (omega (arith, l, grows, size, last_size))
    y)
    (first_there n P proc xs k t (g.sound h) l y)
  where
    by_use : (a b c : Option ℕ) → unwrap_or a 0 < n → unwrap_or c 0 < n → unwrap_or (used_first a b c) 0 < n
    by_use (Some i) b c first later = first
    by_use None (Some i) c first later = first
    by_use None None c first later = later

either_there : (n : ℕ) (a b : Option ℕ) → unwrap_or a 0 < n → unwrap_or b 0 < n → unwrap_or (either_term a b) 0 < n
either_there n (Some i) b first later = first
either_there n None b first later = later

states_there : (n : ℕ) (P : Program) (proc : Procedure) (xs : List path.PathStep) (k : path.Check) (s : Terms) → Sound s
    → length (check_walked P proc k (steps_walked P proc xs s)).kinds ≤ n
    → All (IsThere n) (state_bindings P proc xs k s)
states_there n P proc [] k s h l =
    let last = check_goes P proc k s h in
    let size = last.size in
    All-cons (IsThere n) (λ y. either_term (s.bindings y) (first_use P proc [] k s y)) []
    (λ y. either_there n (s.bindings y) (first_use P proc [] k s y) (variables_there n s h (omega (arith, l, size)) y)
    (first_there n P proc [] k s h l y))
    (All-nil (IsThere n))
states_there n P proc (x ∷ xs) k s h l =
    let t = step_walked P proc x s in
    let g = step_goes P proc x s h in
    let rest = steps_go P proc xs t (g.sound h) in
    let last = check_goes P proc k (steps_walked P proc xs t) (rest.sound (g.sound h)) in
    let first_size = g.size in
    let size = rest.size in
    let last_size = last.size in
    All-cons (IsThere n) (λ y. either_term (s.bindings y) (first_use P proc (x ∷ xs) k s y))
    (state_bindings P proc xs k t)
    (λ y. either_there n (s.bindings y) (first_use P proc (x ∷ xs) k s y)
    (variables_there n s h (omega (arith, l, first_size, size, last_size)) y)
    (first_there n P proc (x ∷ xs) k s h l y))
    (states_there n P proc xs k t (g.sound h) l)

pub condition_states : (P : Program) (proc : Procedure) (c : Condition)
    → All (IsThere (length (terms_of P proc c.start c.way))) (symbolic_of P proc c).bindings
condition_states P proc c =
    let n = length (terms_of P proc c.start c.way) in
    let begun = (walked_extends (meets_at proc c.start) no_terms).sound no_terms_sound in
    states_there n P proc c.way.steps c.way.check (begins proc c.start) begun (same n)
