-- A body in the shape that texts give it has a condition from each of its loops, so there are no more loops than
-- conditions.
use Rattle.std.specs.Prelude.{◌≡◌, ◌⊎◌, ℕ, suc, ◌+◌, ◌≤◌, List, [], ◌∷◌, ◌++◌, map, length, drop, Bool, true, not}
use Rattle.std.specs.Prelude.{Option, Some, None}
use Rattle.std.proofs.Common.{refl, sym, ap, inl, inr, arith}
use Rattle.std.proofs.lemmas.List.{length-map, length-append}
use Rattle.gh_ast.specs.declared.Expr.{Expr}
use Rattle.gh_ast.specs.declared.Expr.TheVariants.{Plain, Read}
use Rattle.gh_ast.specs.Plain.{Cond, compare, negation, conjunction, disjunction, Conds, no_conds, cond_first}
use Rattle.gh_ast.specs.Plain.{Statement, set, new, write, free, call, if, while, return, Statements, no_statements}
use Rattle.gh_ast.specs.Plain.{statement_first, Procedure, Program, Body}
use Rattle.gh_ast.specs.Programs.{body_statements, statements_in}
use Rattle.gh_ast.specs.WellFormed.{AreManyConds, IsFormedCond, AreFormedConds, IsFormedStatement, AreFormedStatements}
use Rattle.gh_ast.specs.WellFormed.{IsFormedBody}
use Rattle.gh_path.specs.Admitted.{most_conditions}
use Rattle.gh_path.specs.Graphs.{Graph, dead_end, ends, moves, fork, PathStep, assume_step, loop_end, reads, all_reads}
use Rattle.gh_path.specs.Graphs.{tested, all_tested, some_tested, lowered, all_lowered, While, loops, all_loops}
use Rattle.gh_path.specs.Graphs.{loops_of, loop_graph, once_around, graph_from, at_entry, at_loop, loop_starts}
use Rattle.gh_path.specs.Paths.{ways, after_step}
use Rattle.gh_path.specs.Conditions.{course, courses_of, from_starts}
use Rattle.gh_path.proofs.ListLemmas.{first_of, rest_of}

-- there is a way
abbrev HasWay : Graph → Type 0
HasWay g = 1 ≤ length (ways g)

way_on : (p : PathStep) (g : Graph) → HasWay g → HasWay (moves p g)
way_on p g way =
    let long : length (map (after_step p) (ways g)) ≡ length (ways g) = length-map (ways g) (after_step p) in
    omega (arith, long, way)

way_to : (l : Expr) (e : Bool) (r : Expr) (g k : Graph) → HasWay g ⊎ HasWay k → HasWay (fork l e r g k)
way_to l e r g k some =
    let yes = map (after_step (assume_step l e r)) (ways g) in
    let no = map (after_step (assume_step l (not e) r)) (ways k) in
    let first : length yes ≡ length (ways g) = length-map (ways g) (after_step (assume_step l e r)) in
    let second : length no ≡ length (ways k) = length-map (ways k) (after_step (assume_step l (not e) r)) in
    elim some [
      | inl one ↦ omega (arith, first, one, length-append yes no)
      | inr other ↦ omega
          (arith, second, other, length-append yes no)
    ]

way_read : (e : Expr) (g : Graph) → HasWay g → HasWay (reads e g)
way_read (Plain o) g way = way
way_read (Read o) g way = omega arith

way_reads : (es : List Expr) (g : Graph) → HasWay g → HasWay (all_reads es g)
way_reads [] g way = way
way_reads (e ∷ es) g way = way_read e (all_reads es g) (way_reads es g way)

abbrev IsSome : Conds → Type 0
IsSome no_conds = ⊥
IsSome (cond_first t ts) = Unit {0}

some_of : (ts : Conds) → AreManyConds ts → IsSome ts
some_of no_conds many = absurd many
some_of (cond_first t ts) many = tt

mutual
  way_tested : (b : Bool) (t : Cond) (g k : Graph) → IsFormedCond b t → HasWay g ⊎ HasWay k → HasWay (tested t g k)
  way_tested b (compare l e r) g k formed some =
      way_read l (reads r (fork l e r g k)) (way_read r (fork l e r g k) (way_to l e r g k some))
  way_tested b (negation t) g k formed some =
      elim some [ inl one ↦ way_tested b t k g formed (inr one) | inr other ↦ way_tested b t k g formed (inl other) ]
  way_tested b (conjunction ts) g k formed some = elim some [
    | inl one ↦ way_all b ts g k formed.1 one
    | inr other ↦ way_none b ts g k formed.1 (some_of ts formed.0) other
  ]
  way_tested b (disjunction ts) g k formed some = elim some [
    | inl one ↦ way_one b ts g k formed.1 (some_of ts formed.0) one
    | inr other ↦ way_past b ts g k formed.1 other
  ]

  way_all : (b : Bool) (ts : Conds) (g k : Graph) → AreFormedConds b ts → HasWay g → HasWay (all_tested ts g k)
  way_all b no_conds g k formed one = one
  way_all b (cond_first t ts) g k formed one =
      way_tested b t (all_tested ts g k) k formed.0 (inl (way_all b ts g k formed.1 one))

  way_none : (b : Bool) (ts : Conds) (g k : Graph) → AreFormedConds b ts → IsSome ts → HasWay k
      → HasWay (all_tested ts g k)
  way_none b no_conds g k formed some other = absurd some
  way_none b (cond_first t ts) g k formed some other = way_tested b t (all_tested ts g k) k formed.0 (inr other)

  way_past : (b : Bool) (ts : Conds) (g k : Graph) → AreFormedConds b ts → HasWay k → HasWay (some_tested ts g k)
  way_past b no_conds g k formed other = other
  way_past b (cond_first t ts) g k formed other =
      way_tested b t g (some_tested ts g k) formed.0 (inr (way_past b ts g k formed.1 other))

  way_one : (b : Bool) (ts : Conds) (g k : Graph) → AreFormedConds b ts → IsSome ts → HasWay g
      → HasWay (some_tested ts g k)
  way_one b no_conds g k formed some one = absurd some
  way_one b (cond_first t ts) g k formed some one = way_tested b t g (some_tested ts g k) formed.0 (inl one)

mutual
  way_lowered : (P : Program) (n : ℕ) (s : Statement) (g : Graph) → IsFormedStatement s → HasWay g
      → HasWay (lowered P n s g)
  way_lowered P n (set x e) g formed way = way_read e (moves _ g) (way_on _ g way)
  way_lowered P n (new x) g formed way = way_on _ g way
  way_lowered P n (write x e) g formed way = way_read e _ (omega arith)
  way_lowered P n (free x) g formed way = omega arith
  way_lowered P n (call xs f es) g formed way = way_reads es _ (omega arith)
  way_lowered P n (if t a c b d) g formed way =
      way_tested true t (all_lowered P n a g) (all_lowered P (n + length (all_loops a)) b g) formed.0
      (inl (way_block P n a g formed.1 way))
  way_lowered P n (while at t i body close) g formed way = omega arith
  way_lowered P n (return at es) g formed way = way_reads es _ (omega arith)

  way_block : (P : Program) (n : ℕ) (ss : Statements) (g : Graph) → AreFormedStatements ss → HasWay g
      → HasWay (all_lowered P n ss g)
  way_block P n no_statements g formed way = way
  way_block P n (statement_first s ss) g formed way =
      way_lowered P n s (all_lowered P (n + length (loops s)) ss g) formed.0
      (way_block P (n + length (loops s)) ss g formed.1 way)

-- loops whose tests and bodies have the shape
abbrev AreFormedLoops : List While → Type 0
AreFormedLoops [] = Unit {0}
AreFormedLoops (l ∷ ls) = (IsFormedCond true l.test × AreFormedStatements l.body) × AreFormedLoops ls

both_formed : (xs ys : List While) → AreFormedLoops xs → AreFormedLoops ys → AreFormedLoops (xs ++ ys)
both_formed [] ys one two = two
both_formed (l ∷ xs) ys one two = (one.0, both_formed xs ys one.1 two)

mutual
  loops_formed : (s : Statement) → IsFormedStatement s → AreFormedLoops (loops s)
  loops_formed (set x e) formed = tt
  loops_formed (new x) formed = tt
  loops_formed (write x e) formed = tt
  loops_formed (free x) formed = tt
  loops_formed (call xs f es) formed = tt
  loops_formed (if t a c b d) formed =
      both_formed (all_loops a) (all_loops b) (all_loops_formed a formed.1) (all_loops_formed b formed.2)
  loops_formed (while at t i body close) formed = ((formed.0, formed.2), all_loops_formed body formed.2)
  loops_formed (return at es) formed = tt

  all_loops_formed : (ss : Statements) → AreFormedStatements ss → AreFormedLoops (all_loops ss)
  all_loops_formed no_statements formed = tt
  all_loops_formed (statement_first s ss) formed =
      both_formed (loops s) (all_loops ss) (loops_formed s formed.0) (all_loops_formed ss formed.1)

-- the loops from the number n on
many_rounds : (P : Program) (proc : Procedure) (n : ℕ) (ls : List While) → drop n (loops_of proc) ≡ ls
    → AreFormedLoops ls → length ls ≤ length (from_starts P proc (loop_starts n ls))
many_rounds P proc n [] left formed = omega arith
many_rounds P proc n (l ∷ ls) left formed =
    let g = graph_from P proc (at_loop n) in
    let first = map (course (at_loop n)) (ways g) in
    let last = ends (loop_end l.close n) in
    let one : HasWay (once_around P n l) =
    way_tested true l.test (all_lowered P (suc n) l.body last) dead_end formed.0.0
    (inl (way_block P (suc n) l.body last formed.0.1 (omega arith))) in
    let same : length (ways g) ≡ length (ways (once_around P n l)) =
    ap (λ o. length (ways (loop_graph P n o))) (first_of (loops_of proc) n l ls left) in
    let long : length first ≡ length (ways g) = length-map (ways g) (course (at_loop n)) in
    let more : length (l ∷ ls) ≡ length ls + 1 = omega arith in
    omega (
      arith,
      one,
      same,
      long,
      more,
      many_rounds P proc (suc n) ls (sym (rest_of (loops_of proc) n l ls left)) formed.1,
      length-append first (from_starts P proc (loop_starts (suc n) ls)),
    )

formed_statements : (b : Option Body) → IsFormedBody b → AreFormedStatements (statements_in b)
formed_statements None formed = tt
formed_statements (Some i) formed = formed

pub few_loops : (P : Program) (proc : Procedure) → IsFormedBody proc.body → length (courses_of P proc) ≤ most_conditions
    → length (loops_of proc) ≤ most_conditions
few_loops P proc formed few =
    let first = map (course at_entry) (ways (graph_from P proc at_entry)) in
    let rest = from_starts P proc (loop_starts 0 (loops_of proc)) in
    omega (
      arith,
      many_rounds P proc 0 (loops_of proc) refl
          (all_loops_formed (body_statements proc) (formed_statements proc.body formed)),
      few,
      length-append first rest,
    )
