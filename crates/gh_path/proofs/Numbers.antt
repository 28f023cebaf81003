-- The numbers in the conditions of a typed program are those of procedures and of loops.
use Rattle.std.specs.Prelude.{◌≡◌, ℕ, suc, ◌+◌, ◌<◌, ◌≤◌, List, [], ◌∷◌, length, not, Option, Some, None, slice_get}
use Rattle.std.specs.Prelude.{All, Contains}
use Rattle.std.proofs.Common.{refl, sym, ◌∙◌, subst, inl, inr, arith}
use Rattle.std.proofs.lemmas.List.{length-append}
use Rattle.std.proofs.lemmas.List.Elements.{All-nil, All-cons, All-contains}
use Rattle.std.proofs.lemmas.Option.{slice_get_within}
use Rattle.gh_ast.specs.declared.Expr.{Expr}
use Rattle.gh_ast.specs.declared.Expr.TheVariants.{Plain, Read}
use Rattle.gh_ast.specs.Plain.{Cond, compare, negation, conjunction, disjunction, Conds, no_conds, cond_first}
use Rattle.gh_ast.specs.Plain.{Statement, set, new, write, free, call, if, while, return, Statements, no_statements}
use Rattle.gh_ast.specs.Plain.{statement_first, Procedure, Program}
use Rattle.gh_ast.specs.Programs.{body_statements}
use Rattle.gh_ast.specs.Rules.{IsTyped}
use Rattle.gh_ast.proofs.Lists.{member_cases, no_member}
use Rattle.gh_path.specs.Callees.{CallsAreKnown, AllCallsAreKnown}
use Rattle.gh_path.specs.Conditions.{Condition, StartIsThere, StepIsThere, CheckIsThere, IsThere}
use Rattle.gh_path.specs.Graphs.{Check, loop_end, return_check, PathStep, assume_step, set_step, write_step, call_step}
use Rattle.gh_path.specs.Graphs.{return_step, callee_entry, Graph, dead_end, ends, moves, guarded, fork, visits, reads}
use Rattle.gh_path.specs.Graphs.{all_reads, tested, all_tested, some_tested, number_of, lowered, all_lowered, While}
use Rattle.gh_path.specs.Graphs.{loops, all_loops, loops_of, loop_graph, graph_from, Start, at_entry, at_loop}
use Rattle.gh_path.specs.Graphs.{loop_starts, starts, HasLoop}
use Rattle.gh_path.specs.Kept.{condition_of, IsOne, IsScoped}
use Rattle.gh_path.specs.declared.condition.Condition as kept_condition
use Rattle.gh_path.specs.Laws.{NumbersAreThere}
use Rattle.gh_path.specs.Paths.{Path, at_end, arrived, on_true, on_false}
use Rattle.gh_path.proofs.ListLemmas.{same_some, member}
use Rattle.gh_path.proofs.Listed.{all_are_listed}
use Rattle.gh_path.proofs.SuitLemmas.{body_calls, all_loops_called, inside_few}

-- all numbers on the paths of a graph
abbrev AllThere : Program → Procedure → Graph → Type 0
AllThere P proc dead_end = Unit {0}
AllThere P proc (ends c) = CheckIsThere P proc c
AllThere P proc (moves s g) = StepIsThere P proc s × AllThere P proc g
AllThere P proc (guarded c s g) = CheckIsThere P proc c × StepIsThere P proc s × AllThere P proc g
AllThere P proc (fork l e r g k) = AllThere P proc g × AllThere P proc k

path_there : (P : Program) (proc : Procedure) (g : Graph) (ss : List PathStep) (c : Check) → Path g ss c
    → AllThere P proc g → All (StepIsThere P proc) ss × CheckIsThere P proc c
path_there P proc _ _ _ (at_end {c = c}) A = (All-nil (StepIsThere P proc), A)
path_there P proc _ _ _ (arrived {g = g} {step = s} {c = c}) A = (All-nil (StepIsThere P proc), A.0)
path_there P proc _ _ _ (Path.past {g = g} {d = d} {step = s} {ps = ss} {c = c} path) A =
    let rest = path_there P proc g ss c path A.2 in
    (All-cons (StepIsThere P proc) s ss A.1 rest.0, rest.1)
path_there P proc _ _ _ (Path.on {g = g} {step = s} {ps = ss} {c = c} path) A =
    let rest = path_there P proc g ss c path A.1 in
    (All-cons (StepIsThere P proc) s ss A.0 rest.0, rest.1)
path_there P proc _ _ _ (on_true {l = l} {e = e} {r = r} {g = g} {k = k} {ps = ss} {c = c} path) A =
    let rest = path_there P proc g ss c path A.0 in
    (All-cons (StepIsThere P proc) (assume_step l e r) ss tt rest.0, rest.1)
path_there P proc _ _ _ (on_false {l = l} {e = e} {r = r} {g = g} {k = k} {ps = ss} {c = c} path) A =
    let rest = path_there P proc k ss c path A.1 in
    (All-cons (StepIsThere P proc) (assume_step l (not e) r) ss tt rest.0, rest.1)

reads_there : (P : Program) (proc : Procedure) (e : Expr) (g : Graph) → AllThere P proc g → AllThere P proc (reads e g)
reads_there P proc (Plain o) g A = A
reads_there P proc (Read o) g A = (tt, tt, A)

all_reads_there : (P : Program) (proc : Procedure) (es : List Expr) (g : Graph) → AllThere P proc g
    → AllThere P proc (all_reads es g)
all_reads_there P proc [] g A = A
all_reads_there P proc (e ∷ es) g A = reads_there P proc e (all_reads es g) (all_reads_there P proc es g A)

mutual
  tested_there : (P : Program) (proc : Procedure) (t : Cond) (g k : Graph) → AllThere P proc g → AllThere P proc k
      → AllThere P proc (tested t g k)
  tested_there P proc (compare l e r) g k A B =
      reads_there P proc l (reads r (fork l e r g k)) (reads_there P proc r (fork l e r g k) (A, B))
  tested_there P proc (negation t) g k A B = tested_there P proc t k g B A
  tested_there P proc (conjunction ts) g k A B = all_tested_there P proc ts g k A B
  tested_there P proc (disjunction ts) g k A B = some_tested_there P proc ts g k A B

  all_tested_there : (P : Program) (proc : Procedure) (ts : Conds) (g k : Graph) → AllThere P proc g → AllThere P proc k
      → AllThere P proc (all_tested ts g k)
  all_tested_there P proc no_conds g k A B = A
  all_tested_there P proc (cond_first t ts) g k A B =
      tested_there P proc t (all_tested ts g k) k (all_tested_there P proc ts g k A B) B

  some_tested_there : (P : Program) (proc : Procedure) (ts : Conds) (g k : Graph) → AllThere P proc g
      → AllThere P proc k → AllThere P proc (some_tested ts g k)
  some_tested_there P proc no_conds g k A B = B
  some_tested_there P proc (cond_first t ts) g k A B =
      tested_there P proc t g (some_tested ts g k) A (some_tested_there P proc ts g k A B)

-- the loops of a statement are among those of the procedure from the number n on
mutual
  lowered_there : (P : Program) (proc : Procedure) (n : ℕ) (s : Statement) (g : Graph) → CallsAreKnown P s
      → n + length (loops s) ≤ length (loops_of proc) → AllThere P proc g → AllThere P proc (lowered P n s g)
  lowered_there P proc n (set x e) g known room A = reads_there P proc e (moves (set_step x e) g) (tt, A)
  lowered_there P proc n (new x) g known room A = (tt, A)
  lowered_there P proc n (write x e) g known room A =
      reads_there P proc e (visits x (moves (write_step x e) g)) (tt, tt, (tt, A))
  lowered_there P proc n (free x) g known room A = (tt, tt, (tt, A))
  lowered_there P proc n (call xs f es) g known room A =
      let m = number_of P f.name in
      all_reads_there P proc es (guarded (callee_entry f.span m es) (call_step xs m es) g) (known, known, A)
  lowered_there P proc n (if t a c b d) g known room A =
      let m = n + length (all_loops a) in
      let both : n + (length (all_loops a) + length (all_loops b)) ≤ length (loops_of proc) =
      omega (arith, room, length-append (all_loops a) (all_loops b)) in
      tested_there P proc t (all_lowered P n a g) (all_lowered P m b g)
      (all_there P proc n a g known.0 (omega (arith, both)) A)
      (all_there P proc m b g known.1 (omega (arith, both)) A)
  lowered_there P proc n (while at t i body close) g known room A =
      let low : n < length (loops_of proc) = omega (arith, room) in
      (low, low, tested_there P proc t dead_end g tt A)
  lowered_there P proc n (return at es) g known room A =
      all_reads_there P proc es (moves (return_step es) (ends (return_check at))) (tt, tt)

  all_there : (P : Program) (proc : Procedure) (n : ℕ) (ss : Statements) (g : Graph) → AllCallsAreKnown P ss
      → n + length (all_loops ss) ≤ length (loops_of proc) → AllThere P proc g → AllThere P proc (all_lowered P n ss g)
  all_there P proc n no_statements g known room A = A
  all_there P proc n (statement_first s ss) g known room A =
      let m = n + length (loops s) in
      let both : n + (length (loops s) + length (all_loops ss)) ≤ length (loops_of proc) =
      omega (arith, room, length-append (loops s) (all_loops ss)) in
      lowered_there P proc n s (all_lowered P m ss g) known.0 (omega (arith, both))
      (all_there P proc m ss g known.1 (omega (arith, both)) A)

around_there : (P : Program) (proc : Procedure) (n : ℕ) (o : Option While) → AllCallsAreKnown P (body_statements proc)
    → slice_get (loops_of proc) n ≡ o → AllThere P proc (loop_graph P n o)
around_there P proc n None known is = tt
around_there P proc n (Some l) known is =
    let last = ends (loop_end l.close n) in
    let low : n < length (loops_of proc) = slice_get_within (loops_of proc) n l is in
    let room : suc n + length (all_loops l.body) ≤ length (loops_of proc) = omega (arith, inside_few proc n l is) in
    tested_there P proc l.test (all_lowered P (suc n) l.body last) dead_end
    (all_there P proc (suc n) l.body last (all_loops_called P (body_statements proc) known n l is) room low) tt

graph_there : (P : Program) (proc : Procedure) (a : Start) → AllCallsAreKnown P (body_statements proc)
    → AllThere P proc (graph_from P proc a)
graph_there P proc at_entry known =
    all_there P proc 0 (body_statements proc) (ends (return_check proc.close)) known (omega arith) tt
graph_there P proc (at_loop n) known = around_there P proc n (slice_get (loops_of proc) n) known refl

rounds_there : (p : Procedure) (n : ℕ) (ls : List While) (a : Start) → n + length ls ≤ length (loops_of p)
    → Contains (loop_starts n ls) a → StartIsThere p a
rounds_there p n [] a room there = absurd (no_member a there)
rounds_there p n (l ∷ ls) a room there = elim (member_cases (at_loop n) (loop_starts (suc n) ls) a there) [
  | inl same ↦ let low : HasLoop p n = omega (arith, room) in subst (StartIsThere p) same low
  | inr later ↦ rounds_there p (suc n) ls a (omega (arith, room)) later
]

start_there : (p : Procedure) (a : Start) → Contains (starts p) a → StartIsThere p a
start_there p a there = elim (member_cases at_entry (loop_starts 0 (loops_of p)) a there) [
  | inl same ↦ subst (StartIsThere p) same tt
  | inr later ↦ rounds_there p 0 (loops_of p) a (omega arith) later
]

pub numbers_are_there : NumbersAreThere
numbers_are_there P c proc typed is of =
    let same : is.procedure ≡ proc = same_some is.procedure proc (sym is.of ∙ of) in
    let begins : Contains (starts proc) c.start = subst (λ q. Contains (starts q) c.start) same is.begins in
    let leads : Path (graph_from P proc c.start) c.way.steps c.way.check =
    subst (λ q. Path (graph_from P q c.start) c.way.steps c.way.check) same is.leads in
    let known = body_calls P typed proc (member P.procedures c.procedure proc of) in
    let both =
    path_there P proc (graph_from P proc c.start) c.way.steps c.way.check leads
    (graph_there P proc c.start known) in
    record { start = start_there proc c.start begins; steps = both.0; check = both.1 }

-- each step of a condition
pub each_is_there : (P : Program) (proc : Procedure) (c : Condition) → IsThere P proc c → (s : PathStep)
    → Contains c.way.steps s → StepIsThere P proc s
each_is_there P proc c there s among = All-contains (StepIsThere P proc) c.way.steps s there.steps among

-- each condition of a typed program fits it
pub one_is_scoped : (P : Program) (r : kept_condition.Condition) → IsTyped P → IsOne P r → IsScoped P r
one_is_scoped P r typed one =
    let is = (all_are_listed P (condition_of r)).0 one in
    (is.procedure, is.of, numbers_are_there P (condition_of r) is.procedure typed is is.of)
