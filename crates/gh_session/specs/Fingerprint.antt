-- A number that is computed from an essence: essences with different numbers are different.
use Rattle.std.specs.Prelude.{ℕ, ◌+◌, ◌*◌, ◌%◌, ◌^◌, List, [], ◌∷◌, length, cond}
use Rattle.gh_ast.specs.declared.Operand.{Operand}
use Rattle.gh_ast.specs.declared.Operand.TheVariants.{Null, Var}
use Rattle.gh_ast.specs.declared.Expr.{Expr}
use Rattle.gh_ast.specs.declared.Expr.TheVariants.{Plain, Read}
use Rattle.gh_ast.specs.Plain.{Cond, compare, negation, conjunction, disjunction, Conds, no_conds, cond_first}
use Rattle.gh_ast.specs.Plain.{Assertion, empty, comparison, points_to, cell, segment, star, cases, Assertions}
use Rattle.gh_ast.specs.Plain.{no_assertions, assertion_first}
use Rattle.gh_ast.specs.Programs.{Name}
use Rattle.gh_session.specs.Essences.{Contract, LoopContract, Step, access_step, assume_step, set_step, new_step}
use Rattle.gh_session.specs.Essences.{write_step, free_step, call_step, while_step, return_step, Start, at_entry}
use Rattle.gh_session.specs.Essences.{at_loop, Check, access, callee_entry, loop_entry, return_check, loop_end, Essence}

-- a number with one more mixed in
abbrev pub mixed : ℕ → ℕ → ℕ
mixed h n = ((h * 1099511628211) % 2 ^ 64 + n) % 2 ^ 64

-- with each of a list mixed in
abbrev pub over : {A : Type 0} → (ℕ → A → ℕ) → ℕ → List A → ℕ
over f h [] = h
over f h (x ∷ xs) = over f (f h x) xs

-- how many there are, and then each of them
abbrev pub counted : {A : Type 0} → (ℕ → A → ℕ) → ℕ → List A → ℕ
counted f h xs = over f (mixed h (length xs)) xs

abbrev pub with_name : ℕ → Name → ℕ
with_name h n = counted mixed h n

abbrev pub with_operand : ℕ → Operand → ℕ
with_operand h (Null p) = mixed h 1
with_operand h (Var o) = with_name (mixed h 2) o.name

abbrev pub with_expr : ℕ → Expr → ℕ
with_expr h (Plain o) = with_operand h o
with_expr h (Read o) = with_name (mixed h 3) o.name

-- the members of a test or a formula end with a number that no member begins with
abbrev mutual
  pub with_cond : ℕ → Cond → ℕ
  with_cond h (compare l e r) = with_expr (with_expr (mixed h (cond e 21 22)) l) r
  with_cond h (negation t) = with_cond (mixed h 23) t
  with_cond h (conjunction ts) = with_conds (mixed h 24) ts
  with_cond h (disjunction ts) = with_conds (mixed h 25) ts

  pub with_conds : ℕ → Conds → ℕ
  with_conds h no_conds = mixed h 26
  with_conds h (cond_first t ts) = with_conds (with_cond h t) ts

abbrev mutual
  pub with_assertion : ℕ → Assertion → ℕ
  with_assertion h empty = mixed h 27
  with_assertion h (comparison l e r) = with_operand (with_operand (mixed h (cond e 28 29)) l) r
  with_assertion h (points_to o y) = with_operand (with_name (mixed h 30) o.name) y
  with_assertion h (cell o) = with_name (mixed h 31) o.name
  with_assertion h (segment x y) = with_operand (with_operand (mixed h 32) x) y
  with_assertion h (star l) = with_assertions (mixed h 33) l
  with_assertion h (cases t x y) = with_assertion (with_assertion (with_cond (mixed h 34) t) x) y

  pub with_assertions : ℕ → Assertions → ℕ
  with_assertions h no_assertions = mixed h 35
  with_assertions h (assertion_first x l) = with_assertions (with_assertion h x) l

abbrev pub with_contract : ℕ → Contract → ℕ
with_contract h k =
    counted with_assertion (with_assertion (counted with_name (counted with_name h k.parameters) k.results) k.needs)
    k.gives

abbrev pub with_loop_contract : ℕ → LoopContract → ℕ
with_loop_contract h l = with_assertion (counted with_name h l.assigned) l.invariant

abbrev pub with_start : ℕ → Start → ℕ
with_start h at_entry = mixed h 4
with_start h (at_loop n) = mixed (mixed h 5) n

abbrev pub with_step : ℕ → Step → ℕ
with_step h (access_step a) = with_name (mixed h 6) a
with_step h (assume_step l e r) = with_expr (with_expr (mixed h (cond e 7 8)) l) r
with_step h (set_step a e) = with_expr (with_name (mixed h 9) a) e
with_step h (new_step a) = with_name (mixed h 10) a
with_step h (write_step a e) = with_expr (with_name (mixed h 11) a) e
with_step h (free_step a) = with_name (mixed h 12) a
with_step h (call_step xs n es) = counted with_expr (counted with_name (mixed (mixed h 13) n) xs) es
with_step h (while_step n) = mixed (mixed h 14) n
with_step h (return_step es) = counted with_expr (mixed h 15) es

abbrev pub with_check : ℕ → Check → ℕ
with_check h (access a) = with_name (mixed h 16) a
with_check h (callee_entry n es) = counted with_expr (mixed (mixed h 17) n) es
with_check h (loop_entry n) = mixed (mixed h 18) n
with_check h return_check = mixed h 19
with_check h (loop_end n) = mixed (mixed h 20) n

abbrev pub fingerprint : Essence → ℕ
fingerprint E =
    with_check (counted with_step
    (with_start (counted with_loop_contract (counted with_contract (counted with_name 0 E.variables) E.contracts)
    E.loops) E.start) E.steps) E.check
