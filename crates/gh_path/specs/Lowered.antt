-- What a lowering adds to the nodes: for a graph, and for what stands before one.
use Rattle.std.specs.Prelude.{◌≡◌, ◌+◌, ◌<◌, ◌≤◌, ℕ, List, [], ◌∷◌, length, slice_index, slice_index_or}
use Rattle.gh_base.specs.declared.place.Span.{Span}
use Rattle.gh_ast.specs.declared.Cond.{Cond}
use Rattle.gh_ast.specs.declared.Stmt.{Stmt}
use Rattle.gh_ast.specs.Plain.{Procedure, Program, Statement, Statements, cond_of, statement_of, statements_view}
use Rattle.gh_ast.specs.Plain.{program_of, procedure_of}
use Rattle.gh_ast.specs.Limits.{AreFew}
use Rattle.gh_path.specs.Graphs.{Graph, dead_end, guarded, loop_entry, while_step, tested, lowered, all_lowered}
use Rattle.gh_path.specs.Graphs.{loops, all_loops}
use Rattle.gh_path.specs.Callees.{CallsAreKnown, AllCallsAreKnown}
use Rattle.gh_path.specs.Shown.{Shows, AddsNodes}
use Rattle.gh_path.specs.declared.node.Node.{Node}
use Rattle.gh_path.specs.declared.lowering.Lowering.{Lowering}

abbrev pub program_in : Lowering → Program
program_in w = program_of w.program.now

abbrev pub procedure_in : Lowering → Procedure
procedure_in w = procedure_of w.procedure.now

-- each call in a statement names one of few procedures, and the numbers of its loops from n on have 16 bits
pub record Suits (w : Lowering) (n : ℕ) (d : Statement) : Type 0 where
  pub few : AreFew (program_in w)
  pub callees : CallsAreKnown (program_in w) d
  pub room : n + length (loops d) ≤ 65536

pub record AllSuit (w : Lowering) (n : ℕ) (ds : Statements) : Type 0 where
  pub few : AreFew (program_in w)
  pub callees : AllCallsAreKnown (program_in w) ds
  pub room : n + length (all_loops ds) ≤ 65536

-- each of some statements suits with its number; the one at the place i does with n
abbrev pub SuitEach : Lowering → List Stmt → List ℕ → Type 0
SuitEach w ds ns =
    (k : ℕ) (d : Stmt) → k < length ds → Suits w (slice_index ns k) (statement_of (slice_index_or ds k d))

abbrev pub SuitsAt : Lowering → List Stmt → ℕ → ℕ → Type 0
SuitsAt w ds i n = (d : Stmt) → d ≡ slice_index_or ds i d → Suits w n (statement_of d)

-- where all of some statements suit with the first number n, each suits with the number of its first loop
abbrev pub EachSuits : List Stmt → ℕ → List ℕ → Type 0
EachSuits ds n ns = (w : Lowering) → AllSuit w n (statements_view ds) → SuitEach w ds ns

-- the number of the first loop of each of some statements, where that of the first one is n
abbrev pub first_loops : ℕ → List Stmt → List ℕ
first_loops n [] = []
first_loops n (d ∷ ds) = n ∷ first_loops (n + length (loops (statement_of d))) ds

-- these are they, where all of them have 16 bits
abbrev pub AreFirstLoops : List Stmt → ℕ → List ℕ → Type 0
AreFirstLoops ds n ns = n + length (all_loops (statements_view ds)) ≤ 65536 → ns ≡ first_loops n ds

-- nodes are added, and there is one at i
abbrev pub Grows : List Node → List Node → ℕ → Type 0
Grows old new i = (length old ≤ length new) × (i < length new)

-- nodes are added before `next`: for f g, whatever graph g that node shows
abbrev pub AddsBefore : (Graph → Graph) → List Node → ℕ → List Node → ℕ → Type 0
AddsBefore f old next new i = (g : Graph) → Shows old next g → AddsNodes old new i (f g)

-- nodes are added that lead to one of two nodes
abbrev pub AddsChoice : (Graph → Graph → Graph) → List Node → ℕ → ℕ → List Node → ℕ → Type 0
AddsChoice f old j k new i = (g h : Graph) → Shows old j g → Shows old k h → AddsNodes old new i (f g h)

-- nodes are added for a statement without loops before a node: the number of its first loop doesn't matter
abbrev pub AddsPlain : Lowering → Statement → List Node → ℕ → List Node → ℕ → Type 0
AddsPlain w d old next new i = AddsBefore (lowered (program_in w) 0 d) old next new i

-- nodes are added for such a statement after which nothing comes
abbrev pub AddsEnd : Lowering → Statement → List Node → List Node → ℕ → Type 0
AddsEnd w d old new i = (g : Graph) → AddsNodes old new i (lowered (program_in w) 0 d g)

-- nodes are added for a loop on the way, with its place, test and number
abbrev pub AddsPass : Span → Cond → ℕ → List Node → ℕ → List Node → ℕ → Type 0
AddsPass at test n old next new i =
    AddsBefore (λ g. guarded (loop_entry at n) (while_step n) (tested (cond_of test) dead_end g)) old next new i

-- nodes are added for a statement, whose loops have the numbers from n on
abbrev pub AddsStatement : Lowering → Stmt → ℕ → List Node → ℕ → List Node → ℕ → Type 0
AddsStatement w d n old next new i = AddsBefore (lowered (program_in w) n (statement_of d)) old next new i

-- nodes are added for some statements, whose loops have the numbers from n on
abbrev pub AddsBlock : Lowering → List Stmt → ℕ → List Node → ℕ → List Node → ℕ → Type 0
AddsBlock w ds n old next new i = AddsBefore (all_lowered (program_in w) n (statements_view ds)) old next new i
