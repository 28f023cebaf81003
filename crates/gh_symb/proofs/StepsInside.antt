-- The terms and versions of a condition over terms are those of the condition.
use Rattle.std.specs.Prelude.{◌≡◌, ℕ, ◌+◌, ◌<◌, ◌≤◌, List, [], ◌∷◌, map, filter, length, Option, Some, None, slice_get}
use Rattle.std.proofs.Common.{refl, sym, ◌∙◌, ap, subst, arith}
use Rattle.std.proofs.lemmas.List.Elements.{All-nil, All-cons}
use Rattle.gh_ast.specs.declared.Expr.{Expr}
use Rattle.gh_ast.specs.Plain.{Assertion, Procedure, Program}
use Rattle.gh_ast.specs.Programs.{Name, names, parameters_of, results_of, variable_names}
use Rattle.gh_path.specs.Graphs as path
use Rattle.gh_path.specs.Graphs.{While, loops_of, meets_at}
use Rattle.gh_path.specs.Conditions.{Condition}
use Rattle.gh_path.specs.Terms.{Bindings, unbound, bound, all_bound, Terms, terms, with_value, used, term_of, followed}
use Rattle.gh_path.specs.Terms.{expr_used, expr_term, exprs_used, exprs_terms, walked, each_walked, moved_on, rebound}
use Rattle.gh_path.specs.Terms.{renewed, some_assigns, bound_inside, call_walked, loop_walked, step_walked}
use Rattle.gh_path.specs.Terms.{steps_walked, entry_walked, invariant_walked, check_walked, way_walked, no_terms}
use Rattle.gh_symb.specs.Symbolic.{Under, TermStep, Symbolic, under, each_under, call_parts, loop_parts, term_step}
use Rattle.gh_symb.specs.Symbolic.{term_steps, needs_under, entered_under, ended_under, term_check, begins, symbolic_of}
use Rattle.gh_symb.specs.Formulas.{variables, version_after}
use Rattle.gh_symb.specs.Inside.{IsUnderInside, AllAreInside, IsStepInside, AreStepsInside, IsCheckInside, IsInside}
use Rattle.gh_symb.proofs.SoundLemmas.{Sound, AreBound, AreBelow, Extends, extends_same, extends_onto, extends_size}
use Rattle.gh_symb.proofs.SoundLemmas.{successors_more, successor_at, bound_more, bound_one, nothing_bound}
use Rattle.gh_symb.proofs.SoundLemmas.{all_bound_in, value_sound, value_size, term_there, used_extends}
use Rattle.gh_symb.proofs.SoundLemmas.{followed_extends, expr_extends, exprs_extend, expr_there, exprs_there}
use Rattle.gh_symb.proofs.SoundLemmas.{walked_extends}

-- a step adds terms and versions
pub record Goes (s t : Terms) : Type 0 where
  pub size : length s.kinds ≤ length t.kinds
  pub version : s.version ≤ t.version
  pub sound : Sound s → Sound t

goes_onto : {s t u : Terms} → Goes s t → Goes t u → Goes s u
goes_onto {s} {t} {u} f g =
    let a = f.size in let b = g.size in let c = f.version in let d = g.version in
    record { size = omega (arith, a, b); version = omega (arith, c, d); sound = λ h. g.sound (f.sound h) }

goes_same : (s : Terms) → Goes s s
goes_same s = record { size = omega arith; version = omega arith; sound = λ h. h }

extended : (s t : Terms) → Extends s t → Goes s t
extended s t f = let v = f.version in record { size = extends_size s t f; version = omega (arith, v); sound = f.sound }

moved : (s : Terms) → Goes s (moved_on s)
moved s = record {
  size = omega arith;
  version = omega arith;
  sound = λ h. record {
    some = h.some;
    successors =
        successors_more (length s.kinds) (length s.kinds) (s.version + 1) (s.version + 1 + 1) (omega arith) (omega arith)
        s.kinds h.successors;
    bindings = h.bindings;
  };
}

-- the bindings of a sound state are replaced
rebound_sound : (s : Terms) (b : Bindings) → Sound s → AreBound (length s.kinds) b → Sound (rebound s b)
rebound_sound s b h k = record { some = h.some; successors = h.successors; bindings = k }

-- a new value for a variable
renewed_one : (x : Name) (s : Terms)
    → Goes s (terms (with_value s.kinds) (bound s.bindings x (length s.kinds)) s.version)
renewed_one x s =
    let size = value_size s.kinds in
    record {
      size = omega (arith, size);
      version = omega arith;
      sound = λ h. record {
        some = omega (arith, size);
        successors = value_sound (s.version + 1) s.kinds h.successors;
        bindings =
            bound_one (length (with_value s.kinds)) s.bindings x (length s.kinds)
            (bound_more (length s.kinds) (length (with_value s.kinds)) s.bindings (omega (arith, size)) h.bindings)
            (omega (arith, size));
      };
    }

renewed_goes : (xs : List Name) (s : Terms) → Goes s (renewed xs s)
renewed_goes [] s = goes_same s
renewed_goes (x ∷ xs) s =
    goes_onto (renewed_one x s)
    (renewed_goes xs (terms (with_value s.kinds) (bound s.bindings x (length s.kinds)) s.version))

renewed_version : (xs : List Name) (s : Terms) → (renewed xs s).version ≡ s.version
renewed_version [] s = refl
renewed_version (x ∷ xs) s =
    renewed_version xs (terms (with_value s.kinds) (bound s.bindings x (length s.kinds)) s.version)

-- what an assertion is walked to
walked_goes : (f : Assertion) (s : Terms) → Goes s (walked f s)
walked_goes f s = extended s (walked f s) (walked_extends f s)

-- what alternatives are walked to
pub each_extends : (fs : List Assertion) (s : Terms) → Extends s (each_walked fs s)
each_extends [] s = extends_same s
each_extends (f ∷ fs) s = extends_onto (walked_extends f s) (each_extends fs (walked f s))

each_goes : (fs : List Assertion) (s : Terms) → Goes s (each_walked fs s)
each_goes fs s = extended s (each_walked fs s) (each_extends fs s)

pub variables_there : (n : ℕ) (s : Terms) → Sound s → length s.kinds ≤ n → (x : Name) → (variables s.bindings x).0 < n
variables_there n s h l x = let k = term_there x s h in omega (arith, k)

under_inside : (n v : ℕ) (f : Assertion) (s : Terms) → Sound s → length (walked f s).kinds ≤ n → s.version < v
    → IsUnderInside n v (under f s)
under_inside n v f s h l k =
    record { version = k; terms = variables_there n (walked f s) ((walked_extends f s).sound h) l }

each_inside : (n v : ℕ) (fs : List Assertion) (s : Terms) → Sound s → length (each_walked fs s).kinds ≤ n
    → s.version < v → AllAreInside n v (each_under fs s)
each_inside n v [] s h l k = All-nil (IsUnderInside n v)
each_inside n v (f ∷ fs) s h l k =
    let t = walked f s in
    let g = walked_extends f s in
    let size = extends_size t (each_walked fs t) (each_extends fs t) in
    let same = g.version in
    All-cons (IsUnderInside n v) (under f s) (each_under fs t) (under_inside n v f s h (omega (arith, l, size)) k)
    (each_inside n v fs t (g.sound h) l (omega (arith, k, same)))

one_inside : (n v : ℕ) (u : Under) → IsUnderInside n v u → AllAreInside n v (u ∷ [])
one_inside n v u h = All-cons (IsUnderInside n v) u [] h (All-nil (IsUnderInside n v))

terms_below_all : (xs : List Name) (s : Terms) → Sound s → AreBelow (length s.kinds) (map (λ x. term_of x s) xs)
terms_below_all [] s h = tt
terms_below_all (x ∷ xs) s h = (term_there x s h, terms_below_all xs s h)

-- the start of a call: the parameters have the arguments' terms
inside_sound : (p : Procedure) (ts : List ℕ) (s : Terms) → Sound s → AreBelow (length s.kinds) ts
    → Sound (rebound s (bound_inside p ts))
inside_sound p ts s h k =
    rebound_sound s (bound_inside p ts) h
    (all_bound_in (length s.kinds) unbound (parameters_of p) ts (nothing_bound (length s.kinds)) k)

abbrev middle : Procedure → Terms → Terms
middle p s = renewed (results_of p) (moved_on (walked p.needs s))

middle_goes : (p : Procedure) (s : Terms) → Goes s (middle p s)
middle_goes p s =
    goes_onto (walked_goes p.needs s)
    (goes_onto (moved (walked p.needs s)) (renewed_goes (results_of p) (moved_on (walked p.needs s))))

middle_version : (p : Procedure) (s : Terms) → (middle p s).version ≡ s.version + 1
middle_version p s =
    let v = (walked_extends p.needs s).version in
    renewed_version (results_of p) (moved_on (walked p.needs s)) ∙ ap (λ i. i + 1) v

-- a step from s to t is inside, and leads to the version of t
record Inside (n v : ℕ) (s t : Terms) (step : TermStep) : Type 0 where
  inside : length t.kinds ≤ n → t.version < v → IsStepInside n v s.version step
  after : version_after s.version step ≡ t.version

call_goes : (o : Option Procedure) (xs : List Name) (ts : List ℕ) (s : Terms) → Sound s → AreBelow (length s.kinds) ts
    → Goes s (call_walked o xs ts s)
call_goes None xs ts s h k = goes_same s
call_goes (Some p) xs ts s h k =
    let first = rebound s (bound_inside p ts) in
    let sound = inside_sound p ts s h k in
    let mid = middle p first in
    let last = each_walked p.gives mid in
    let whole = goes_onto (middle_goes p first) (each_goes p.gives mid) in
    let size = whole.size in
    record {
      size = whole.size;
      version = whole.version;
      sound =
          λ _. rebound_sound last (all_bound s.bindings xs (map (λ x. term_of x last) (results_of p)))
          (whole.sound sound)
          (all_bound_in (length last.kinds) s.bindings xs (map (λ x. term_of x last) (results_of p))
          (bound_more (length s.kinds) (length last.kinds) s.bindings size h.bindings)
          (terms_below_all (results_of p) last (whole.sound sound)));
    }

call_inside : (n v : ℕ) (o : Option Procedure) (xs : List Name) (ts : List ℕ) (s : Terms) → Sound s
    → AreBelow (length s.kinds) ts → Inside n v s (call_walked o xs ts s) (call_parts o ts s)
call_inside n v None xs ts s h k = record { inside = λ l m. tt; after = refl }
call_inside n v (Some p) xs ts s h k =
    let first = rebound s (bound_inside p ts) in
    let sound = inside_sound p ts s h k in
    let mid = middle p first in
    let last = each_walked p.gives mid in
    let up = (goes_onto (moved (walked p.needs first))
    (goes_onto (renewed_goes (results_of p) (moved_on (walked p.needs first))) (each_goes p.gives mid))).size in
    let at_mid = middle_version p first in
    let at_last = (each_extends p.gives mid).version in
    record {
      inside = λ l m. (
        under_inside n v p.needs first sound (omega (arith, l, up)) (omega (arith, m, at_mid, at_last)),
        each_inside n v p.gives mid ((middle_goes p first).sound sound) l (omega (arith, m, at_last)),
        omega (arith, m, at_mid, at_last),
      );
      after = sym (at_last ∙ at_mid);
    }

arguments_below : (es : List Expr) (s : Terms) → Sound s
    → AreBelow (length (exprs_used es s).kinds) (exprs_terms es (exprs_used es s))
arguments_below es s h =
    exprs_there es s (exprs_used es s) (extends_same (exprs_used es s)) ((exprs_extend es s).sound h)

loop_goes : (o : Option While) (xs : List Name) (s : Terms) → Goes s (loop_walked o xs s)
loop_goes None xs s = goes_same s
loop_goes (Some l) xs s =
    let a = walked l.invariant s in
    let b = renewed (filter (some_assigns l.body) xs) (moved_on a) in
    goes_onto (walked_goes l.invariant s)
    (goes_onto (moved a) (goes_onto (renewed_goes (filter (some_assigns l.body) xs) (moved_on a))
    (walked_goes l.invariant b)))

loop_inside : (n v : ℕ) (o : Option While) (xs : List Name) (s : Terms) → Sound s
    → Inside n v s (loop_walked o xs s) (loop_parts o xs s)
loop_inside n v None xs s h = record { inside = λ l m. tt; after = refl }
loop_inside n v (Some l) xs s h =
    let a = walked l.invariant s in
    let b = renewed (filter (some_assigns l.body) xs) (moved_on a) in
    let up = (goes_onto (moved a)
    (goes_onto (renewed_goes (filter (some_assigns l.body) xs) (moved_on a)) (walked_goes l.invariant b))) in
    let size = up.size in
    let to_b =
    goes_onto (walked_goes l.invariant s)
    (goes_onto (moved a) (renewed_goes (filter (some_assigns l.body) xs) (moved_on a))) in
    let at_a = (walked_extends l.invariant s).version in
    let at_b = renewed_version (filter (some_assigns l.body) xs) (moved_on a) in
    let at_end = (walked_extends l.invariant b).version in
    record {
      inside = λ k m. (
        under_inside n v l.invariant s h (omega (arith, k, size)) (omega (arith, m, at_a, at_b, at_end)),
        one_inside n v (under l.invariant b)
            (under_inside n v l.invariant b (to_b.sound h) k (omega (arith, m, at_end))),
        omega (arith, m, at_a, at_b, at_end),
      );
      after = sym (at_end ∙ at_b ∙ ap (λ i. i + 1) at_a);
    }

pub step_goes : (P : Program) (proc : Procedure) (x : path.PathStep) (s : Terms) → Sound s
    → Goes s (step_walked P proc x s)
step_goes P proc (path.access_step o) s h =
    extended s (step_walked P proc (path.access_step o) s)
    (extends_onto (used_extends o.name s) (followed_extends o.name (used o.name s)))
step_goes P proc (path.assume_step l e r) s h =
    extended s (step_walked P proc (path.assume_step l e r) s)
    (extends_onto (expr_extends l s) (expr_extends r (expr_used l s)))
step_goes P proc (path.set_step x e) s h =
    let t = expr_used e s in
    let g = extended s t (expr_extends e s) in
    record {
      size = g.size;
      version = g.version;
      sound = λ k. rebound_sound t (bound t.bindings x.name (expr_term e t)) (g.sound k)
          (bound_one (length t.kinds) t.bindings x.name (expr_term e t) (g.sound k).bindings
          (expr_there e s t (extends_same t) (g.sound k)));
    }
step_goes P proc (path.new_step x) s h =
    let one = renewed_one x.name s in
    let t = terms (with_value s.kinds) (bound s.bindings x.name (length s.kinds)) s.version in
    let size = value_size (with_value s.kinds) in
    let first = value_size s.kinds in
    record {
      size = omega (arith, size, first);
      version = omega arith;
      sound = λ k. let mid = one.sound k in record {
        some = omega (arith, size);
        successors =
            successors_more (length (with_value (with_value s.kinds))) (length (with_value (with_value s.kinds)))
            (s.version + 1) (s.version + 1 + 1) (omega arith) (omega arith) (with_value (with_value s.kinds))
            (value_sound (s.version + 1) (with_value s.kinds) mid.successors);
        bindings =
            bound_more (length (with_value s.kinds)) (length (with_value (with_value s.kinds)))
            (bound s.bindings x.name (length s.kinds)) (omega (arith, size)) mid.bindings;
      };
    }
step_goes P proc (path.write_step x e) s h =
    let t = expr_used e (used x.name s) in
    goes_onto (extended s t (extends_onto (used_extends x.name s) (expr_extends e (used x.name s)))) (moved t)
step_goes P proc (path.free_step x) s h =
    goes_onto (extended s (used x.name s) (used_extends x.name s)) (moved (used x.name s))
step_goes P proc (path.call_step ys n es) s h =
    let t = exprs_used es s in
    goes_onto (extended s t (exprs_extend es s))
    (call_goes (slice_get P.procedures n) (names ys) (exprs_terms es t) t ((exprs_extend es s).sound h)
    (arguments_below es s h))
step_goes P proc (path.while_step n) s h = loop_goes (slice_get (loops_of proc) n) (variable_names proc) s
step_goes P proc (path.return_step es) s h =
    let t = exprs_used es s in
    let g = extended s t (exprs_extend es s) in
    record {
      size = g.size;
      version = g.version;
      sound = λ k. rebound_sound t (all_bound t.bindings (results_of proc) (exprs_terms es t)) (g.sound k)
          (all_bound_in (length t.kinds) t.bindings (results_of proc) (exprs_terms es t) (g.sound k).bindings
          (arguments_below es s k));
    }

step_inside : (n v : ℕ) (P : Program) (proc : Procedure) (x : path.PathStep) (s : Terms) → Sound s
    → Inside n v s (step_walked P proc x s) (term_step P proc x s)
step_inside n v P proc (path.access_step o) s h =
    let t = used o.name s in
    let f = used_extends o.name s in
    let g = followed_extends o.name t in
    let there = term_there o.name t (f.sound h) in
    let size = extends_size t (followed o.name t) g in
    let same = g.version ∙ f.version in
    record { inside = λ l m. (omega (arith, l, there, size), omega (arith, m, same)); after = sym same }
step_inside n v P proc (path.assume_step l e r) s h =
    let a = expr_used l s in
    let t = expr_used r a in
    let f = expr_extends l s in
    let g = expr_extends r a in
    let sound = g.sound (f.sound h) in
    let left = expr_there l s t g sound in
    let right = expr_there r a t (extends_same t) sound in
    record { inside = λ k m. (omega (arith, k, left), omega (arith, k, right)); after = sym (g.version ∙ f.version) }
step_inside n v P proc (path.set_step x e) s h = record { inside = λ l m. tt; after = sym (expr_extends e s).version }
step_inside n v P proc (path.new_step x) s h =
    let size = value_size (with_value s.kinds) in
    let first = value_size s.kinds in
    record { inside = λ l m. (omega (arith, l, size, first), omega (arith, l, size, first), m); after = refl }
step_inside n v P proc (path.write_step x e) s h =
    let a = used x.name s in
    let t = expr_used e a in
    let f = used_extends x.name s in
    let g = expr_extends e a in
    let sound = g.sound (f.sound h) in
    let place = term_there x.name t sound in
    let content = expr_there e a t (extends_same t) sound in
    let same = g.version ∙ f.version in
    record {
      inside = λ l m. (omega (arith, l, place), omega (arith, l, content), omega (arith, m, same));
      after = ap (λ i. i + 1) (sym same);
    }
step_inside n v P proc (path.free_step x) s h =
    let f = used_extends x.name s in
    let there = term_there x.name (used x.name s) (f.sound h) in
    let same = f.version in
    record { inside = λ l m. (omega (arith, l, there), omega (arith, m, same)); after = ap (λ i. i + 1) (sym same) }
step_inside n v P proc (path.call_step ys m es) s h =
    let t = exprs_used es s in
    let g = exprs_extend es s in
    let o = slice_get P.procedures m in
    let c = call_inside n v o (names ys) (exprs_terms es t) t (g.sound h) (arguments_below es s h) in
    let step = call_parts o (exprs_terms es t) t in
    subst (λ (i : ℕ). Inside n v (terms s.kinds s.bindings i) (call_walked o (names ys) (exprs_terms es t) t) step)
    g.version
    (record { inside = c.inside; after = c.after })
step_inside n v P proc (path.while_step m) s h = loop_inside n v (slice_get (loops_of proc) m) (variable_names proc) s h
step_inside n v P proc (path.return_step es) s h =
    record { inside = λ l m. tt; after = sym (exprs_extend es s).version }

pub steps_go : (P : Program) (proc : Procedure) (xs : List path.PathStep) (s : Terms) → Sound s
    → Goes s (steps_walked P proc xs s)
steps_go P proc [] s h = goes_same s
steps_go P proc (x ∷ xs) s h = let g = step_goes P proc x s h in
    goes_onto g (steps_go P proc xs (step_walked P proc x s) (g.sound h))

steps_inside : (n v : ℕ) (P : Program) (proc : Procedure) (xs : List path.PathStep) (s : Terms) → Sound s
    → length (steps_walked P proc xs s).kinds ≤ n → (steps_walked P proc xs s).version < v
    → AreStepsInside n v s.version (term_steps P proc xs s)
steps_inside n v P proc [] s h l m = tt
steps_inside n v P proc (x ∷ xs) s h l m =
    let t = step_walked P proc x s in
    let g = step_goes P proc x s h in
    let rest = steps_go P proc xs t (g.sound h) in
    let size = rest.size in
    let version = rest.version in
    let here = step_inside n v P proc x s h in (
      here.inside (omega (arith, l, size)) (omega (arith, m, version)),
      subst (λ (i : ℕ). AreStepsInside n v i (term_steps P proc xs t)) (sym here.after)
          (steps_inside n v P proc xs t (g.sound h) l m),
    )

entry_inside : (n v : ℕ) (o : Option Procedure) (ts : List ℕ) (s : Terms) → Sound s → AreBelow (length s.kinds) ts
    → length (entry_walked o ts s).kinds ≤ n → s.version < v → IsCheckInside n v (needs_under o ts s)
entry_inside n v None ts s h k l m = All-nil (IsUnderInside n v)
entry_inside n v (Some p) ts s h k l m =
    under_inside n v p.needs (rebound s (bound_inside p ts)) (inside_sound p ts s h k) l m

entered_inside : (n v : ℕ) (o : Option While) (s : Terms) → Sound s → length (invariant_walked o s).kinds ≤ n
    → s.version < v → IsCheckInside n v (entered_under o s)
entered_inside n v None s h l m = All-nil (IsUnderInside n v)
entered_inside n v (Some r) s h l m = under_inside n v r.invariant s h l m

ended_inside : (n v : ℕ) (o : Option While) (s : Terms) → Sound s → length (invariant_walked o s).kinds ≤ n
    → s.version < v → IsCheckInside n v (ended_under o s)
ended_inside n v None s h l m = All-nil (IsUnderInside n v)
ended_inside n v (Some r) s h l m = one_inside n v (under r.invariant s) (under_inside n v r.invariant s h l m)

check_inside : (n v : ℕ) (P : Program) (proc : Procedure) (k : path.Check) (s : Terms) → Sound s
    → length (check_walked P proc k s).kinds ≤ n → s.version < v → IsCheckInside n v (term_check P proc k s)
check_inside n v P proc (path.access o) s h l m =
    let there = term_there o.name (used o.name s) ((used_extends o.name s).sound h) in omega (arith, l, there)
check_inside n v P proc (path.callee_entry at c es) s h l m =
    let t = exprs_used es s in
    let g = exprs_extend es s in
    let same = g.version in
    entry_inside n v (slice_get P.procedures c) (exprs_terms es t) t (g.sound h) (arguments_below es s h) l
    (omega (arith, m, same))
check_inside n v P proc (path.loop_entry at c) s h l m = entered_inside n v (slice_get (loops_of proc) c) s h l m
check_inside n v P proc (path.return_check at) s h l m = each_inside n v proc.gives s h l m
check_inside n v P proc (path.loop_end at c) s h l m = ended_inside n v (slice_get (loops_of proc) c) s h l m

entry_goes : (o : Option Procedure) (ts : List ℕ) (s : Terms) → Sound s → AreBelow (length s.kinds) ts
    → Goes s (entry_walked o ts s)
entry_goes None ts s h k = goes_same s
entry_goes (Some p) ts s h k =
    let g = walked_goes p.needs (rebound s (bound_inside p ts)) in
    record { size = g.size; version = g.version; sound = λ _. g.sound (inside_sound p ts s h k) }

invariant_goes : (o : Option While) (s : Terms) → Goes s (invariant_walked o s)
invariant_goes None s = goes_same s
invariant_goes (Some r) s = walked_goes r.invariant s

pub check_goes : (P : Program) (proc : Procedure) (k : path.Check) (s : Terms) → Sound s
    → Goes s (check_walked P proc k s)
check_goes P proc (path.access o) s h = extended s (used o.name s) (used_extends o.name s)
check_goes P proc (path.callee_entry at n es) s h =
    let t = exprs_used es s in
    let g = exprs_extend es s in
    goes_onto (extended s t g)
    (entry_goes (slice_get P.procedures n) (exprs_terms es t) t (g.sound h) (arguments_below es s h))
check_goes P proc (path.loop_entry at n) s h = invariant_goes (slice_get (loops_of proc) n) s
check_goes P proc (path.return_check at) s h = each_goes proc.gives s
check_goes P proc (path.loop_end at n) s h = invariant_goes (slice_get (loops_of proc) n) s

pub no_terms_sound : Sound no_terms
no_terms_sound = record { some = omega arith; successors = tt; bindings = nothing_bound 1 }

-- a condition leads to terms that are listed
pub condition_sound : (P : Program) (proc : Procedure) (c : Condition) → Sound (way_walked P proc c.start c.way)
condition_sound P proc c =
    let first = begins proc c.start in
    let mid = steps_walked P proc c.way.steps first in
    let begun = (walked_extends (meets_at proc c.start) no_terms).sound no_terms_sound in
    let sound = (steps_go P proc c.way.steps first begun).sound begun in
    (check_goes P proc c.way.check mid sound).sound sound

abbrev pub IsItselfInside : Symbolic → Type 0
IsItselfInside s = IsInside s.terms s.versions s.start s.steps s.check

pub conditions_are_inside : (P : Program) (proc : Procedure) (c : Condition) → IsItselfInside (symbolic_of P proc c)
conditions_are_inside P proc c =
    let first = begins proc c.start in
    let f = walked_extends (meets_at proc c.start) no_terms in
    let sound = f.sound no_terms_sound in
    let mid = steps_walked P proc c.way.steps first in
    let g = steps_go P proc c.way.steps first sound in
    let last = check_walked P proc c.way.check mid in
    let k = check_goes P proc c.way.check mid (g.sound sound) in
    let whole = condition_sound P proc c in
    let n = length last.kinds in
    let v = last.version + 1 in
    let size = g.size in
    let version = g.version in
    let later = k.size in
    let latest = k.version in
    let zero_first = f.version in
    record {
      terms = record {
        terms = refl;
        some = whole.some;
        successors = λ t i x e. (successor_at n v last.kinds whole.successors t i x e).0;
      };
      some_versions = omega arith;
      start_is =
          under_inside n v (meets_at proc c.start) no_terms no_terms_sound (omega (arith, size, later)) (omega arith);
      steps_are =
          subst (λ (i : ℕ). AreStepsInside n v i (term_steps P proc c.way.steps first)) zero_first
          (steps_inside n v P proc c.way.steps first sound later (omega (arith, latest)));
      check_is = check_inside n v P proc c.way.check mid (g.sound sound) (omega arith) (omega (arith, latest));
    }
