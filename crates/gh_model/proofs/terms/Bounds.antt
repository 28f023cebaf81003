-- Variables are bound to terms that are listed, and versions go up.
use Rattle.std.specs.Prelude.{◌≡◌, ℕ, zero, suc, ◌+◌, ◌≤◌, ◌<◌, List, [], ◌∷◌, ◌++◌, length, map, filter, slice_get}
use Rattle.std.specs.Prelude.{unwrap_or, Option, Some, None, Bool, true, false, cond}
use Rattle.std.specs.List.{list_any}
use Rattle.std.proofs.Common.{refl, sym, ◌∙◌, ap, subst, inl, inr, arith}
use Rattle.std.proofs.lemmas.List.{length-append}
use Rattle.gh_ast.specs.declared.Operand.{Operand}
use Rattle.gh_ast.specs.declared.Operand.TheVariants.{Null, Var}
use Rattle.gh_ast.specs.declared.Expr.{Expr}
use Rattle.gh_ast.specs.declared.Expr.TheVariants.{Plain, Read}
use Rattle.gh_ast.specs.Plain.{Cond, compare, negation, conjunction, disjunction, Conds, no_conds, cond_first}
use Rattle.gh_ast.specs.Plain.{Assertion, empty, comparison, points_to, cell, segment, star, cases, Assertions}
use Rattle.gh_ast.specs.Plain.{no_assertions, assertion_first, Procedure, Program}
use Rattle.gh_ast.specs.Programs.{Name, names, parameters_of, results_of, variable_names}
use Rattle.gh_path.specs.Graphs as path
use Rattle.gh_path.specs.Terms.{Kind, next, same_kind, added, with_value, Bindings, unbound, bound, all_bound, Terms}
use Rattle.gh_path.specs.Terms.{terms, used, used_as, term_of, followed, operand_used, expr_used, expr_term, exprs_used}
use Rattle.gh_path.specs.Terms.{exprs_terms, cond_walked, conds_walked, walked, all_walked, each_walked, moved_on}
use Rattle.gh_path.specs.Terms.{rebound, renewed, some_assigns, bound_inside, answered_inside, call_walked, loop_walked}
use Rattle.gh_path.specs.Terms.{step_walked, steps_walked, entry_walked, invariant_walked, check_walked}
use Rattle.gh_symb.specs.Symbolic.{step_used}
use Rattle.gh_model.proofs.terms.Extension.{Within, Grows, stays, onto, bound_cases, used_bound, followed_there}
use Rattle.gh_model.proofs.terms.Extension.{used_grows, visited_grows, expr_grows, exprs_grow, walked_grows, each_grows}
use Rattle.gh_model.proofs.terms.Extension.{place_there, at_front}
use Rattle.gh_model.proofs.terms.Callees.{with_results, with_assigned, renewed_within, renewed_version}
use Rattle.gh_model.proofs.terms.Callees.{assigned_version}

-- null is listed, and each variable's term
pub record IsBounded (s : Terms) : Type 0 where
  pub some : 0 < length s.kinds
  pub below : (y : Name) (t : ℕ) → s.bindings y ≡ Some t → t < length s.kinds

at_place : (ks : List Kind) (t : ℕ) → t < length ks → (k : Kind) × (slice_get ks t ≡ Some k)
at_place [] t l = absurd (omega (arith, l))
at_place (k ∷ ks) zero l = (k, refl)
at_place (k ∷ ks) (suc t) l = at_place ks t (omega (arith, l))

pub place_below : (ks : List Kind) (t : ℕ) (k : Kind) → slice_get ks t ≡ Some k → t < length ks
place_below [] t k e = absurd cc
place_below (l ∷ ks) zero k e = omega arith
place_below (l ∷ ks) (suc t) k e = omega (arith, place_below ks t k e)

-- a term that is listed stays so
pub still_below : (ks ls : List Kind) (t : ℕ) → Within ks ls → t < length ks → t < length ls
still_below ks ls t w l = let k = at_place ks t l in place_below ls t k.0 (w t k.0 k.1)

one_longer : (ks : List Kind) (k : Kind) → length (ks ++ k ∷ []) ≡ length ks + 1
one_longer ks k = length-append ks (k ∷ [])

pub longer : (ks : List Kind) → length (with_value ks) ≡ length ks + 1
longer ks = one_longer ks _

pub used_bounded : (x : Name) (s : Terms) → IsBounded s → IsBounded (used x s)
used_bounded x s B = by_binding (s.bindings x)
  where
    by_binding : (o : Option ℕ) → IsBounded (used_as x o s)
    by_binding (Some t) = B
    by_binding None = record {
      some = omega (arith, longer s.kinds, B.some);
      below = λ y t e. elim (bound_cases s.bindings x (length s.kinds) y t e) [
        | inl (same, at) ↦ omega (arith, longer s.kinds, at)
        | inr old ↦ omega (arith, longer s.kinds, B.below y t old)
      ];
    }

-- more kinds and the same variables
pub more_kinds : (s t : Terms) → Within s.kinds t.kinds → t.bindings ≡ s.bindings → IsBounded s → IsBounded t
more_kinds s t w e B = record {
  some = still_below s.kinds t.kinds 0 w B.some;
  below = λ y u f. still_below s.kinds t.kinds u w (B.below y u (ap (λ b. b y) (sym e) ∙ f));
}

-- a variable that has a term is followed
pub follow_within : (x : Name) (s : Terms) → Within s.kinds (followed x s).kinds
follow_within x s = added_within (next s.version (term_of x s)) s.kinds
  where
    added_within : (k : Kind) (ks : List Kind) → Within ks (added k ks)
    added_within k ks = by_test (list_any (same_kind k) ks)
      where
        by_test : (b : Bool) → Within ks (cond b ks (ks ++ k ∷ []))
        by_test true = λ i l e. e
        by_test false = at_front ks (k ∷ [])

visited_bounded : (x : Name) (s : Terms) → IsBounded s → IsBounded (followed x (used x s))
visited_bounded x s B =
    more_kinds (used x s) (followed x (used x s)) (follow_within x (used x s)) refl (used_bounded x s B)

operand_bounded : (o : Operand) (s : Terms) → IsBounded s → IsBounded (operand_used o s)
operand_bounded (Null p) s B = B
operand_bounded (Var o) s B = used_bounded o.name s B

expr_bounded : (e : Expr) (s : Terms) → IsBounded s → IsBounded (expr_used e s)
expr_bounded (Plain o) s B = operand_bounded o s B
expr_bounded (Read o) s B = visited_bounded o.name s B

pub exprs_bounded : (es : List Expr) (s : Terms) → IsBounded s → IsBounded (exprs_used es s)
exprs_bounded [] s B = B
exprs_bounded (e ∷ es) s B = exprs_bounded es (expr_used e s) (expr_bounded e s B)

mutual
  test_bounded : (t : Cond) (s : Terms) → IsBounded s → IsBounded (cond_walked t s)
  test_bounded (compare l e r) s B = expr_bounded r (expr_used l s) (expr_bounded l s B)
  test_bounded (negation t) s B = test_bounded t s B
  test_bounded (conjunction ts) s B = tests_bounded ts s B
  test_bounded (disjunction ts) s B = tests_bounded ts s B

  tests_bounded : (ts : Conds) (s : Terms) → IsBounded s → IsBounded (conds_walked ts s)
  tests_bounded no_conds s B = B
  tests_bounded (cond_first t ts) s B = tests_bounded ts (cond_walked t s) (test_bounded t s B)

mutual
  pub walked_bounded : (f : Assertion) (s : Terms) → IsBounded s → IsBounded (walked f s)
  walked_bounded empty s B = B
  walked_bounded (comparison l e r) s B = operand_bounded r (operand_used l s) (operand_bounded l s B)
  walked_bounded (points_to x y) s B = operand_bounded y (followed x.name (used x.name s)) (visited_bounded x.name s B)
  walked_bounded (cell x) s B = visited_bounded x.name s B
  walked_bounded (segment x y) s B = operand_bounded y (operand_used x s) (operand_bounded x s B)
  walked_bounded (star fs) s B = all_bounded fs s B
  walked_bounded (cases t f g) s B =
      walked_bounded g (walked f (cond_walked t s)) (walked_bounded f (cond_walked t s) (test_bounded t s B))

  all_bounded : (fs : Assertions) (s : Terms) → IsBounded s → IsBounded (all_walked fs s)
  all_bounded no_assertions s B = B
  all_bounded (assertion_first f fs) s B = all_bounded fs (walked f s) (walked_bounded f s B)

-- names bound to terms that are listed
abbrev pub AreBelow : ℕ → List ℕ → Type 0
AreBelow n [] = Unit {0}
AreBelow n (t ∷ ts) = (t < n) × AreBelow n ts

all_bound_below : (n : ℕ) (b : Bindings) (xs : List Name) (ts : List ℕ) → AreBelow n ts
    → ((y : Name) (t : ℕ) → b y ≡ Some t → t < n) → (y : Name) (t : ℕ) → all_bound b xs ts y ≡ Some t → t < n
all_bound_below n b [] ts L B y t e = B y t e
all_bound_below n b (x ∷ xs) [] L B y t e = B y t e
all_bound_below n b (x ∷ xs) (u ∷ us) L B y t e =
    all_bound_below n (bound b x u) xs us L.1 (λ z v f. elim (bound_cases b x u z v f) [
      | inl (same, at) ↦ omega (arith, L.0, at)
      | inr old ↦ B z v old
    ]) y t e

expr_below : (e : Expr) (s t : Terms) → Grows (expr_used e s) t → IsBounded t → expr_term e t < length t.kinds
expr_below (Plain (Null p)) s t g B = B.some
expr_below (Plain (Var o)) s t g B =
    let b = used_bound o.name s in
    let e : t.bindings o.name ≡ Some b.0 = g.bindings o.name b.0 b.1 in
    subst (λ u. u < length t.kinds) (sym (ap (λ v. unwrap_or v 0) e)) (B.below o.name b.0 e)
expr_below (Read o) s t g B =
    let there = followed_there o.name (used o.name s) in
    let b = used_bound o.name s in
    let e : t.bindings o.name ≡ Some b.0 = g.bindings o.name b.0 b.1 in
    let same : term_of o.name (used o.name s) ≡ term_of o.name t = ap (λ v. unwrap_or v 0) (b.1 ∙ sym e) in
    let kind : slice_get t.kinds there.0 ≡ Some (next t.version (term_of o.name t)) =
    g.kinds there.0 (next (used o.name s).version (term_of o.name (used o.name s))) there.1
    ∙ ap (λ u. Some (next (used o.name s).version u)) same
    ∙ ap (λ i. Some (next i (term_of o.name t))) (sym g.version) in
    place_below t.kinds (expr_term (Read o) t) (next t.version (term_of o.name t))
    (place_there t.version (term_of o.name t) t.kinds there.0 kind)

exprs_below : (es : List Expr) (s t : Terms) → Grows (exprs_used es s) t → IsBounded t
    → AreBelow (length t.kinds) (exprs_terms es t)
exprs_below [] s t g B = tt
exprs_below (e ∷ es) s t g B =
    (expr_below e s t (onto (exprs_grow es (expr_used e s)) g) B, exprs_below es (expr_used e s) t g B)

term_below : (x : Name) (t : Terms) → IsBounded t → term_of x t < length t.kinds
term_below x t B = by_binding (t.bindings x) refl
  where
    by_binding : (o : Option ℕ) → t.bindings x ≡ o → term_of x t < length t.kinds
    by_binding (Some u) e = subst (λ v. v < length t.kinds) (sym (ap (λ o. unwrap_or o 0) e)) (B.below x u e)
    by_binding None e = subst (λ v. v < length t.kinds) (sym (ap (λ o. unwrap_or o 0) e)) B.some

terms_below : (xs : List Name) (t : Terms) → IsBounded t → AreBelow (length t.kinds) (map (λ x. term_of x t) xs)
terms_below [] t B = tt
terms_below (x ∷ xs) t B = (term_below x t B, terms_below xs t B)

rebound_bounded : (t : Terms) (b : Bindings) (xs : List Name) (ts : List ℕ) → AreBelow (length t.kinds) ts
    → 0 < length t.kinds → ((y : Name) (u : ℕ) → b y ≡ Some u → u < length t.kinds)
    → IsBounded (rebound t (all_bound b xs ts))
rebound_bounded t b xs ts L some B = record { some = some; below = all_bound_below (length t.kinds) b xs ts L B }

renewed_bounded : (xs : List Name) (s : Terms) → IsBounded s → IsBounded (renewed xs s)
renewed_bounded [] s B = B
renewed_bounded (x ∷ xs) s B =
    renewed_bounded xs (terms (with_value s.kinds) (bound s.bindings x (length s.kinds)) s.version) record {
      some = omega (arith, longer s.kinds, B.some);
      below = λ y t e. elim (bound_cases s.bindings x (length s.kinds) y t e) [
        | inl (same, at) ↦ omega (arith, longer s.kinds, at)
        | inr old ↦ omega (arith, longer s.kinds, B.below y t old)
      ];
    }

moved_bounded : (s : Terms) → IsBounded s → IsBounded (moved_on s)
moved_bounded s B = record { some = B.some; below = B.below }

-- the parameters have the arguments' terms
pub inside_bounded : (p : Procedure) (es : List Expr) (s : Terms) → IsBounded s
    → IsBounded (rebound (exprs_used es s) (bound_inside p (exprs_terms es (exprs_used es s))))
inside_bounded p es s B =
    let T = exprs_used es s in
    let C = exprs_bounded es s B in
    rebound_bounded T unbound (parameters_of p) (exprs_terms es T) (exprs_below es s T (stays T) C) C.some
    (λ y u e. absurd cc)

-- alternatives
pub each_bounded : (fs : List Assertion) (s : Terms) → IsBounded s → IsBounded (each_walked fs s)
each_bounded [] s B = B
each_bounded (f ∷ fs) s B = each_bounded fs (walked f s) (walked_bounded f s B)

-- what a callee gives
pub results_bounded : (p : Procedure) (s : Terms) → IsBounded s → IsBounded (each_walked p.gives (with_results p s))
results_bounded p s B =
    each_bounded p.gives (with_results p s)
    (renewed_bounded (results_of p) (moved_on (walked p.needs s))
    (moved_bounded (walked p.needs s) (walked_bounded p.needs s B)))

pub call_within : (p : Procedure) (r : Terms) → Within r.kinds (each_walked p.gives (with_results p r)).kinds
call_within p r i k e =
    (each_grows p.gives (with_results p r)).kinds i k
    (renewed_within (results_of p) (moved_on (walked p.needs r)) i k ((walked_grows p.needs r).kinds i k e))

call_bounded : (o : Option Procedure) (ys : List Name) (es : List Expr) (s : Terms) → IsBounded s
    → IsBounded (call_walked o ys (exprs_terms es (exprs_used es s)) (exprs_used es s))
call_bounded None ys es s B = exprs_bounded es s B
call_bounded (Some p) ys es s B =
    let T = exprs_used es s in
    let C = exprs_bounded es s B in
    let r = rebound T (bound_inside p (exprs_terms es T)) in
    let after = each_walked p.gives (with_results p r) in
    let D = results_bounded p r (inside_bounded p es s B) in
    rebound_bounded after T.bindings ys (map (λ x. term_of x after) (results_of p)) (terms_below (results_of p) after D)
    D.some (λ y u e. still_below T.kinds after.kinds u (call_within p r) (C.below y u e))

-- what a loop keeps to, and what it assigns
pub invariant_bounded : (o : Option path.While) (s : Terms) → IsBounded s → IsBounded (invariant_walked o s)
invariant_bounded None s B = B
invariant_bounded (Some l) s B = walked_bounded l.invariant s B

loop_bounded : (o : Option path.While) (xs : List Name) (s : Terms) → IsBounded s → IsBounded (loop_walked o xs s)
loop_bounded None xs s B = B
loop_bounded (Some l) xs s B =
    let t = walked l.invariant s in
    walked_bounded l.invariant (with_assigned l xs s)
    (renewed_bounded (filter (some_assigns l.body) xs) (moved_on t)
    (moved_bounded t (walked_bounded l.invariant s B)))

pub used_step_bounded : (home : Procedure) (p : path.PathStep) (s : Terms) → IsBounded s
    → IsBounded (step_used home p s)
used_step_bounded home (path.access_step o) s B = used_bounded o.name s B
used_step_bounded home (path.assume_step l e r) s B = expr_bounded r (expr_used l s) (expr_bounded l s B)
used_step_bounded home (path.set_step x e) s B = expr_bounded e s B
used_step_bounded home (path.new_step x) s B = B
used_step_bounded home (path.write_step x e) s B = expr_bounded e (used x.name s) (used_bounded x.name s B)
used_step_bounded home (path.free_step x) s B = used_bounded x.name s B
used_step_bounded home (path.call_step ys n es) s B = exprs_bounded es s B
used_step_bounded home (path.while_step n) s B = invariant_bounded (slice_get (path.loops_of home) n) s B
used_step_bounded home (path.return_step es) s B = exprs_bounded es s B

pub step_bounded : (P : Program) (home : Procedure) (proc : path.PathStep) (s : Terms) → IsBounded s
    → IsBounded (step_walked P home proc s)
step_bounded P home (path.access_step o) s B = visited_bounded o.name s B
step_bounded P home (path.assume_step l e r) s B = expr_bounded r (expr_used l s) (expr_bounded l s B)
step_bounded P home (path.set_step x e) s B =
    let T = expr_used e s in
    let C = expr_bounded e s B in
    rebound_bounded T T.bindings (x.name ∷ []) (expr_term e T ∷ []) (expr_below e s T (stays T) C, tt) C.some C.below
step_bounded P home (path.new_step x) s B = record {
  some = omega (arith, longer (with_value s.kinds), longer s.kinds, B.some);
  below = λ y t e. elim (bound_cases s.bindings x.name (length s.kinds) y t e) [
    | inl (same, at) ↦ omega (arith, longer (with_value s.kinds), longer s.kinds, at)
    | inr old ↦ omega (arith, longer (with_value s.kinds), longer s.kinds, B.below y t old)
  ];
}
step_bounded P home (path.write_step x e) s B =
    moved_bounded (expr_used e (used x.name s)) (expr_bounded e (used x.name s) (used_bounded x.name s B))
step_bounded P home (path.free_step x) s B = moved_bounded (used x.name s) (used_bounded x.name s B)
step_bounded P home (path.call_step ys n es) s B = call_bounded (slice_get P.procedures n) (names ys) es s B
step_bounded P home (path.while_step n) s B = loop_bounded (slice_get (path.loops_of home) n) (variable_names home) s B
step_bounded P home (path.return_step es) s B =
    let T = exprs_used es s in
    let C = exprs_bounded es s B in
    rebound_bounded T T.bindings (results_of home) (exprs_terms es T) (exprs_below es s T (stays T) C) C.some C.below

-- versions
inside_up : (p : Procedure) (ys : List Name) (b : Bindings) (s : Terms)
    → (answered_inside p ys b s).version ≡ s.version + 1
inside_up p ys b s =
    (each_grows p.gives (with_results p s)).version ∙ renewed_version (results_of p) (moved_on (walked p.needs s))
    ∙ ap (λ i. i + 1) (walked_grows p.needs s).version

call_up : (o : Option Procedure) (ys : List Name) (ts : List ℕ) (s : Terms)
    → s.version ≤ (call_walked o ys ts s).version
call_up None ys ts s = omega arith
call_up (Some p) ys ts s = omega (arith, inside_up p ys s.bindings (rebound s (bound_inside p ts)))

-- the version after what a loop does
pub loop_version : (l : path.While) (xs : List Name) (s : Terms) → (loop_walked (Some l) xs s).version ≡ s.version + 1
loop_version l xs s = (walked_grows l.invariant (with_assigned l xs s)).version ∙ assigned_version l xs s

loop_up : (o : Option path.While) (xs : List Name) (s : Terms) → s.version ≤ (loop_walked o xs s).version
loop_up None xs s = omega arith
loop_up (Some l) xs s = omega (arith, loop_version l xs s)

pub step_up : (P : Program) (home : Procedure) (proc : path.PathStep) (s : Terms)
    → s.version ≤ (step_walked P home proc s).version
step_up P home (path.access_step o) s = omega (arith, (visited_grows o.name s).version)
step_up P home (path.assume_step l e r) s =
    omega (arith, (onto (expr_grows l s) (expr_grows r (expr_used l s))).version)
step_up P home (path.set_step x e) s = omega (arith, (expr_grows e s).version)
step_up P home (path.new_step x) s = omega arith
step_up P home (path.write_step x e) s =
    omega (arith, (onto (used_grows x.name s) (expr_grows e (used x.name s))).version)
step_up P home (path.free_step x) s = omega (arith, (used_grows x.name s).version)
step_up P home (path.call_step ys n es) s =
    omega (
      arith,
      (exprs_grow es s).version,
      call_up (slice_get P.procedures n) (names ys) (exprs_terms es (exprs_used es s)) (exprs_used es s),
    )
step_up P home (path.while_step n) s = loop_up (slice_get (path.loops_of home) n) (variable_names home) s
step_up P home (path.return_step es) s = omega (arith, (exprs_grow es s).version)

pub steps_up : (P : Program) (home : Procedure) (ps : List path.PathStep) (s : Terms)
    → s.version ≤ (steps_walked P home ps s).version
steps_up P home [] s = omega arith
steps_up P home (proc ∷ ps) s = omega (arith, step_up P home proc s, steps_up P home ps (step_walked P home proc s))

entry_version : (o : Option Procedure) (ts : List ℕ) (s : Terms) → (entry_walked o ts s).version ≡ s.version
entry_version None ts s = refl
entry_version (Some p) ts s = (walked_grows p.needs (rebound s (bound_inside p ts))).version

invariant_version : (o : Option path.While) (s : Terms) → (invariant_walked o s).version ≡ s.version
invariant_version None s = refl
invariant_version (Some l) s = (walked_grows l.invariant s).version

pub check_version : (P : Program) (home : Procedure) (c : path.Check) (s : Terms)
    → (check_walked P home c s).version ≡ s.version
check_version P home (path.access o) s = (used_grows o.name s).version
check_version P home (path.callee_entry at n es) s =
    entry_version (slice_get P.procedures n) (exprs_terms es (exprs_used es s)) (exprs_used es s)
    ∙ (exprs_grow es s).version
check_version P home (path.loop_entry at n) s = invariant_version (slice_get (path.loops_of home) n) s
check_version P home (path.return_check at) s = (each_grows home.gives s).version
check_version P home (path.loop_end at n) s = invariant_version (slice_get (path.loops_of home) n) s
