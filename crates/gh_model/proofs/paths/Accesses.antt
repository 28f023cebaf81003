-- A place that a path writes or frees was accessed right before.
use Rattle.std.specs.Prelude.{◌≡◌, ℕ, suc, ◌+◌, List, [], ◌∷◌, length, Option, Some, None, slice_get}
use Rattle.std.proofs.Common.{refl}
use Rattle.gh_ast.specs.declared.Expr.{Expr}
use Rattle.gh_ast.specs.declared.Expr.TheVariants.{Plain, Read}
use Rattle.gh_ast.specs.Plain.{Cond, compare, negation, conjunction, disjunction, Conds, no_conds, cond_first}
use Rattle.gh_ast.specs.Plain.{Statement, set, new, write, free, call, if, while, return, Statements, no_statements}
use Rattle.gh_ast.specs.Plain.{statement_first, Procedure, Program}
use Rattle.gh_ast.specs.Programs.{Name, body_statements}
use Rattle.gh_path.specs.Graphs.{Check, PathStep, access_step, assume_step, set_step, new_step, write_step, free_step}
use Rattle.gh_path.specs.Graphs.{call_step, while_step, return_step, Graph, dead_end, ends, moves, guarded, fork, reads}
use Rattle.gh_path.specs.Graphs.{all_reads, tested, all_tested, some_tested, lowered, all_lowered, While, loops}
use Rattle.gh_path.specs.Graphs.{all_loops, loops_of, Start, at_entry, at_loop, once_around, loop_graph, graph_from}
use Rattle.gh_path.specs.Paths.{Path, at_end, arrived, past, on, on_true, on_false}

-- the variable that a step accesses
abbrev pub accesses : PathStep → Option Name
accesses (access_step o) = Some o.name
accesses (assume_step l e r) = None
accesses (set_step x e) = None
accesses (new_step x) = None
accesses (write_step x e) = None
accesses (free_step x) = None
accesses (call_step ys n es) = None
accesses (while_step n) = None
accesses (return_step es) = None

-- after an access of o
abbrev pub IsReady : Option Name → PathStep → Type 0
IsReady o (access_step x) = Unit {0}
IsReady o (assume_step l e r) = Unit {0}
IsReady o (set_step x e) = Unit {0}
IsReady o (new_step x) = Unit {0}
IsReady o (write_step x e) = o ≡ Some x.name
IsReady o (free_step x) = o ≡ Some x.name
IsReady o (call_step ys n es) = Unit {0}
IsReady o (while_step n) = Unit {0}
IsReady o (return_step es) = Unit {0}

abbrev pub AreReady : Option Name → List PathStep → Type 0
AreReady o [] = Unit {0}
AreReady o (p ∷ ps) = IsReady o p × AreReady (accesses p) ps

abbrev AllReady : Option Name → Graph → Type 0
AllReady o dead_end = Unit {0}
AllReady o (ends c) = Unit {0}
AllReady o (moves p g) = IsReady o p × AllReady (accesses p) g
AllReady o (guarded c p g) = IsReady o p × AllReady (accesses p) g
AllReady o (fork l e r g k) = AllReady None g × AllReady None k

path_ready : (o : Option Name) (g : Graph) (ps : List PathStep) (c : Check) → Path g ps c → AllReady o g → AreReady o ps
path_ready o g ps c (at_end {c = d}) A = tt
path_ready o g ps c (arrived {g = h} {step = p} {c = d}) A = tt
path_ready o g ps c (past {g = h} {d = d} {step = p} {ps = qs} {c = k} rest) A =
    (A.0, path_ready (accesses p) h qs k rest A.1)
path_ready o g ps c (on {g = h} {step = p} {ps = qs} {c = k} rest) A = (A.0, path_ready (accesses p) h qs k rest A.1)
path_ready o g ps c (on_true {l = l} {e = e} {r = r} {g = h} {k = h'} {ps = qs} {c = k} rest) A =
    (tt, path_ready None h qs k rest A.0)
path_ready o g ps c (on_false {l = l} {e = e} {r = r} {g = h} {k = h'} {ps = qs} {c = k} rest) A =
    (tt, path_ready None h' qs k rest A.1)

none_ready : (o : Option Name) (p : PathStep) → IsReady None p → IsReady o p
none_ready o (access_step x) A = tt
none_ready o (assume_step l e r) A = tt
none_ready o (set_step x e) A = tt
none_ready o (new_step x) A = tt
none_ready o (write_step x e) A = absurd cc
none_ready o (free_step x) A = absurd cc
none_ready o (call_step ys n es) A = tt
none_ready o (while_step n) A = tt
none_ready o (return_step es) A = tt

weaker : (o : Option Name) (g : Graph) → AllReady None g → AllReady o g
weaker o dead_end A = tt
weaker o (ends c) A = tt
weaker o (moves p g) A = (none_ready o p A.0, A.1)
weaker o (guarded c p g) A = (none_ready o p A.0, A.1)
weaker o (fork l e r g k) A = A

reads_ready : (e : Expr) (g : Graph) → AllReady None g → AllReady None (reads e g)
reads_ready (Plain o) g A = A
reads_ready (Read o) g A = (tt, weaker (Some o.name) g A)

all_reads_ready : (es : List Expr) (g : Graph) → AllReady None g → AllReady None (all_reads es g)
all_reads_ready [] g A = A
all_reads_ready (e ∷ es) g A = reads_ready e (all_reads es g) (all_reads_ready es g A)

mutual
  tested_ready : (t : Cond) (g k : Graph) → AllReady None g → AllReady None k → AllReady None (tested t g k)
  tested_ready (compare l e r) g k A B =
      reads_ready l (reads r (fork l e r g k)) (reads_ready r (fork l e r g k) (A, B))
  tested_ready (negation t) g k A B = tested_ready t k g B A
  tested_ready (conjunction ts) g k A B = all_tested_ready ts g k A B
  tested_ready (disjunction ts) g k A B = some_tested_ready ts g k A B

  all_tested_ready : (ts : Conds) (g k : Graph) → AllReady None g → AllReady None k → AllReady None (all_tested ts g k)
  all_tested_ready no_conds g k A B = A
  all_tested_ready (cond_first t ts) g k A B = tested_ready t (all_tested ts g k) k (all_tested_ready ts g k A B) B

  some_tested_ready : (ts : Conds) (g k : Graph) → AllReady None g → AllReady None k
      → AllReady None (some_tested ts g k)
  some_tested_ready no_conds g k A B = B
  some_tested_ready (cond_first t ts) g k A B = tested_ready t g (some_tested ts g k) A (some_tested_ready ts g k A B)

mutual
  lowered_ready : (P : Program) (n : ℕ) (s : Statement) (g : Graph) → AllReady None g → AllReady None (lowered P n s g)
  lowered_ready P n (set x e) g A = reads_ready e (moves (set_step x e) g) (tt, A)
  lowered_ready P n (new x) g A = (tt, A)
  lowered_ready P n (write x e) g A = reads_ready e _ (tt, (refl, A))
  lowered_ready P n (free x) g A = (tt, (refl, A))
  lowered_ready P n (call xs f es) g A = all_reads_ready es _ (tt, A)
  lowered_ready P n (if t a c b d) g A =
      let m = n + length (all_loops a) in
      tested_ready t (all_lowered P n a g) (all_lowered P m b g) (all_ready P n a g A) (all_ready P m b g A)
  lowered_ready P n (while at t i body close) g A = (tt, tested_ready t dead_end g tt A)
  lowered_ready P n (return at es) g A = all_reads_ready es _ (tt, tt)

  all_ready : (P : Program) (n : ℕ) (ss : Statements) (g : Graph) → AllReady None g
      → AllReady None (all_lowered P n ss g)
  all_ready P n no_statements g A = A
  all_ready P n (statement_first s ss) g A =
      lowered_ready P n s (all_lowered P (n + length (loops s)) ss g) (all_ready P (n + length (loops s)) ss g A)

round_ready : (P : Program) (n : ℕ) (l : While) → AllReady None (once_around P n l)
round_ready P n l = tested_ready l.test _ dead_end (all_ready P (suc n) l.body _ tt) tt

around_ready : (P : Program) (n : ℕ) (o : Option While) → AllReady None (loop_graph P n o)
around_ready P n (Some l) = round_ready P n l
around_ready P n None = tt

graph_ready : (P : Program) (proc : Procedure) (a : Start) → AllReady None (graph_from P proc a)
graph_ready P proc at_entry = all_ready P 0 (body_statements proc) _ tt
graph_ready P proc (at_loop n) = around_ready P n (slice_get (loops_of proc) n)

pub start_ready : (P : Program) (proc : Procedure) (a : Start) (ps : List PathStep) (c : Check)
    → Path (graph_from P proc a) ps c → AreReady None ps
start_ready P proc a ps c path = path_ready None (graph_from P proc a) ps c path (graph_ready P proc a)
