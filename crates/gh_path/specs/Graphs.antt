-- Bodies as graphs: each statement is given what comes after it. Procedures and loops are told by their numbers.
-- A number that no procedure or loop has (`None` of `Option Procedure` or `Option While`) is in no condition of a typed
-- program, so what is said of it doesn't matter.
use Rattle.std.specs.Prelude.{◌≡◌, ◌<◌, ℕ, suc, ◌+◌, List, [], ◌∷◌, ◌++◌, Bool, length, position, unwrap_or, Some, None}
use Rattle.std.specs.Prelude.{Option, slice_get}
use Rattle.std.specs.Str.{bytes_eq}
use Rattle.gh_base.specs.declared.place.Span.{Span}
use Rattle.gh_ast.specs.declared.Occ.{Occ}
use Rattle.gh_ast.specs.declared.Expr.{Expr}
use Rattle.gh_ast.specs.declared.Expr.TheVariants.{Plain, Read}
use Rattle.gh_ast.specs.Plain.{Cond, compare, negation, conjunction, disjunction, Conds, no_conds, cond_first}
use Rattle.gh_ast.specs.Plain.{Assertion, empty, Program, Statement, set, new, write, free, call, if, while, return}
use Rattle.gh_ast.specs.Plain.{Statements, no_statements, statement_first, Procedure}
use Rattle.gh_ast.specs.Programs.{Name, name_of, body_statements}

-- a `while_of`: the places of its word and of its last brace, and its parts
pub record While : Type 0 where
  pub at : Span
  pub test : Cond
  pub invariant : Assertion
  pub body : Statements
  pub close : Span

abbrev pub while_of : Span → Cond → Assertion → Statements → Span → While
while_of at t i body close = record { at = at; test = t; invariant = i; body = body; close = close }

-- what is asked at a node, and where in the text: what a variable points to is allocated; some part meets what the
-- callee needs; some part meets the loop's invariant; the whole heap meets one alternative of what the procedure
-- gives, or the loop's invariant
pub data Check : Type 0 where
  access : Occ → Check
  callee_entry : Span → ℕ → List Expr → Check
  loop_entry : Span → ℕ → Check
  return_check : Span → Check
  loop_end : Span → ℕ → Check

-- the place that a check is named by: of the variable, the callee, the word `while_of`, the word `return` or a last
-- brace
abbrev pub check_place : Check → Span
check_place (access x) = x.span
check_place (callee_entry at n es) = at
check_place (loop_entry at n) = at
check_place (return_check at) = at
check_place (loop_end at n) = at

-- `assume_step l e r`: l and r are equal where e is true, and differ where it is false
pub data PathStep : Type 0 where
  access_step : Occ → PathStep
  assume_step : Expr → Bool → Expr → PathStep
  set_step : Occ → Expr → PathStep
  new_step : Occ → PathStep
  write_step : Occ → Expr → PathStep
  free_step : Occ → PathStep
  call_step : List Occ → ℕ → List Expr → PathStep
  while_step : ℕ → PathStep
  return_step : List Expr → PathStep

-- a first node and what comes after it: nothing; a check; a step; a check and a step; a comparison with a way for each
-- truth. Without cycles, since a loop on the way is one step; a node that several ways lead to stands once for each
pub data Graph : Type 0 where
  dead_end : Graph
  ends : Check → Graph
  moves : PathStep → Graph → Graph
  guarded : Check → PathStep → Graph → Graph
  fork : Expr → Bool → Expr → Graph → Graph → Graph

abbrev pub visits : Occ → Graph → Graph
visits x g = guarded (access x) (access_step x) g

abbrev pub reads : Expr → Graph → Graph
reads (Plain o) g = g
reads (Read o) g = visits o g

abbrev pub all_reads : List Expr → Graph → Graph
all_reads [] g = g
all_reads (e ∷ es) g = reads e (all_reads es g)

-- a test leads to the first graph where it is true, else to the second
abbrev mutual
  pub tested : Cond → Graph → Graph → Graph
  tested (compare l e r) g k = reads l (reads r (fork l e r g k))
  tested (negation t) g k = tested t k g
  tested (conjunction ts) g k = all_tested ts g k
  tested (disjunction ts) g k = some_tested ts g k

  pub all_tested : Conds → Graph → Graph → Graph
  all_tested no_conds g k = g
  all_tested (cond_first t ts) g k = tested t (all_tested ts g k) k

  pub some_tested : Conds → Graph → Graph → Graph
  some_tested no_conds g k = k
  some_tested (cond_first t ts) g k = tested t g (some_tested ts g k)

-- the loops of a block in the order of their words, so that each place in the list is a loop's number
abbrev mutual
  pub loops : Statement → List While
  loops (if t a c b d) = all_loops a ++ all_loops b
  loops (while at t i body close) = while_of at t i body close ∷ all_loops body
  loops s = []

  pub all_loops : Statements → List While
  all_loops no_statements = []
  all_loops (statement_first s ss) = loops s ++ all_loops ss

abbrev pub loops_of : Procedure → List While
loops_of p = all_loops (body_statements p)

-- the loop of a number: from 0, in the order of the words `while_of`
abbrev pub IsLoopAt : Procedure → ℕ → While → Type 0
IsLoopAt p n l = slice_get (loops_of p) n ≡ Some l

abbrev pub HasLoop : Procedure → ℕ → Type 0
HasLoop p n = n < length (loops_of p)

-- the procedure of a number
abbrev pub IsProcedureAt : Program → ℕ → Procedure → Type 0
IsProcedureAt P n proc = slice_get P.procedures n ≡ Some proc

abbrev pub HasProcedure : Program → ℕ → Type 0
HasProcedure P n = n < length P.procedures

-- the number of the first procedure of a name, or how many there are where there is none
abbrev pub number_of : Program → Name → ℕ
number_of P f = unwrap_or (position (λ proc. bytes_eq (name_of proc) f) P.procedures) (length P.procedures)

-- a statement before a graph, and a block; the first loop in it has the number n
abbrev mutual
  pub lowered : Program → ℕ → Statement → Graph → Graph
  lowered P n (set x e) g = reads e (moves (set_step x e) g)
  lowered P n (new x) g = moves (new_step x) g
  lowered P n (write x e) g = reads e (visits x (moves (write_step x e) g))
  lowered P n (free x) g = visits x (moves (free_step x) g)
  lowered P n (call xs f es) g =
      all_reads es (guarded (callee_entry f.span (number_of P f.name) es) (call_step xs (number_of P f.name) es) g)
  lowered P n (if t a c b d) g = tested t (all_lowered P n a g) (all_lowered P (n + length (all_loops a)) b g)
  lowered P n (while at t i body close) g = guarded (loop_entry at n) (while_step n) (tested t dead_end g)
  lowered P n (return at es) g = all_reads es (moves (return_step es) (ends (return_check at)))

  pub all_lowered : Program → ℕ → Statements → Graph → Graph
  all_lowered P n no_statements g = g
  all_lowered P n (statement_first s ss) g = lowered P n s (all_lowered P (n + length (loops s)) ss g)

-- where paths begin: at the first statement of the body, or at the test of the loop of a number
pub data Start : Type 0 where
  at_entry : Start
  at_loop : ℕ → Start

abbrev pub invariant_of : Option While → Assertion
invariant_of (Some l) = l.invariant
invariant_of None = empty

-- the assertion that the whole heap meets at a start
abbrev pub meets_at : Procedure → Start → Assertion
meets_at p at_entry = p.needs
meets_at p (at_loop n) = invariant_of (slice_get (loops_of p) n)

-- once around the loop of a number
abbrev pub once_around : Program → ℕ → While → Graph
once_around P n l = tested l.test (all_lowered P (suc n) l.body (ends (loop_end l.close n))) dead_end

abbrev pub loop_graph : Program → ℕ → Option While → Graph
loop_graph P n (Some l) = once_around P n l
loop_graph P n None = dead_end

-- the graph from a start
abbrev pub graph_from : Program → Procedure → Start → Graph
graph_from P proc at_entry = all_lowered P 0 (body_statements proc) (ends (return_check proc.close))
graph_from P proc (at_loop n) = loop_graph P n (slice_get (loops_of proc) n)

-- the starts at so many loops, numbered from n
abbrev pub loop_starts : ℕ → List While → List Start
loop_starts n [] = []
loop_starts n (l ∷ ls) = at_loop n ∷ loop_starts (suc n) ls

abbrev pub starts : Procedure → List Start
starts p = at_entry ∷ loop_starts 0 (loops_of p)
