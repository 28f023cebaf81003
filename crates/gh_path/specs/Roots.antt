-- The starts of a program in order, each with its first node.
use Rattle.std.specs.Prelude.{◌≡◌, ◌≤◌, ◌+◌, ℕ, List, [], ◌∷◌, ◌++◌, map, length, drop, Option, Some, None}
use Rattle.gh_ast.specs.Plain.{Procedure, Program}
use Rattle.gh_path.specs.Graphs.{Graph, While, Start, at_entry, at_loop, graph_from, IsProcedureAt, IsLoopAt}
use Rattle.gh_path.specs.Paths.{Way, ways}
use Rattle.gh_path.specs.Conditions.{Condition, condition, course, courses_of}
use Rattle.gh_path.specs.Kept.{start_of}
use Rattle.gh_path.specs.Lowered.{program_in, procedure_in}
use Rattle.gh_path.specs.Shown.{Shows}
use Rattle.gh_path.specs.declared.node.Node.{Node}
use Rattle.gh_path.specs.declared.starts.Root.{Root}
use Rattle.gh_path.specs.declared.starts.Sought.{Sought}
use Rattle.gh_path.specs.declared.starts.Starts.{Starts}
use Rattle.gh_path.specs.declared.lowering.Lowering.{Lowering}

-- the conditions of some ways from a start of the procedure of the number n
abbrev pub on_ways : ℕ → Start → List Way → List Condition
on_ways n a ws = map (condition n) (map (course a) ws)

-- all that begin at a start
abbrev pub from_start : Program → Procedure → ℕ → Start → List Condition
from_start P proc n a = on_ways n a (ways (graph_from P proc a))

-- where a path from a start of the procedure proc leads, read off the start as it is kept
abbrev pub graph_of : Program → Procedure → Root → Graph
graph_of P proc r = graph_from P proc (start_of r.start)

-- a start of the procedure proc, whose first node shows its graph, with the number of its ways
pub record IsRoot (P : Program) (ns : List Node) (r : Root) (proc : Procedure) : Type 0 where
  pub procedure : IsProcedureAt P r.procedure proc
  pub shows : Shows ns r.node (graph_of P proc r)
  pub count : r.count ≡ length (ways (graph_of P proc r))

-- the conditions from some starts, in order
abbrev pub AreRoots : Program → List Node → List Root → List Condition → Type 0
AreRoots P ns [] cs = cs ≡ []
AreRoots P ns (r ∷ rs) cs =
    (proc : Procedure) × (ds : List Condition) × IsRoot P ns r proc × AreRoots P ns rs ds
    × (cs ≡ from_start P proc r.procedure (start_of r.start) ++ ds)

-- the starts are those of some conditions
abbrev pub AreStarts : Program → Starts → List Condition → Type 0
AreStarts P s cs = AreRoots P s.nodes s.roots.items cs

-- the last conditions of a list, and the place among them that the place n in the list is
pub record IsAfter {A : Type 0} (xs : List A) (n : ℕ) (ys : List A) (m : ℕ) : Type 0 where
  pub front : List A
  pub split : xs ≡ front ++ ys
  pub place : n ≡ length front + m

-- the conditions from a start that is sought on
abbrev pub AreFrom : Program → Starts → Sought → List Condition → Type 0
AreFrom P s f cs = AreRoots P s.nodes (f.root ∷ drop f.next s.roots.items) cs

-- none: the place is past the list. Else the conditions from the start on are the last of the list, and the one at the
-- place has `before` of them before it
abbrev pub IsSought : Program → Starts → List Condition → ℕ → Option Sought → Type 0
IsSought P s cs n None = length cs ≤ n
IsSought P s cs n (Some f) = (ds : List Condition) × AreFrom P s f ds × IsAfter cs n ds f.before

abbrev pub IsSoughtIn : Starts → ℕ → Option Sought → Type 0
IsSoughtIn s n found = (P : Program) (cs : List Condition) → AreStarts P s cs → IsSought P s cs n found

-- where the lowering's procedure has the number n, conditions are added to those of the starts
abbrev pub AddsConditions : Lowering → ℕ → List Condition → Starts → Starts → Type 0
AddsConditions w n ds old new = (cs : List Condition) → AreStarts (program_in w) old cs →
    IsProcedureAt (program_in w) n (procedure_in w) → AreStarts (program_in w) new (cs ++ ds)

-- all of the procedure
abbrev pub AddsProcedure : Lowering → ℕ → Starts → Starts → Type 0
AddsProcedure w n old new =
    AddsConditions w n (map (condition n) (courses_of (program_in w) (procedure_in w))) old new

-- those from its entry
abbrev pub AddsEntry : Lowering → ℕ → Starts → Starts → Type 0
AddsEntry w n old new = AddsConditions w n (from_start (program_in w) (procedure_in w) n at_entry) old new

-- those from its loop l of the number k
abbrev pub AddsLoop : Lowering → ℕ → ℕ → While → Starts → Starts → Type 0
AddsLoop w n k l old new =
    IsLoopAt (procedure_in w) k l
    → AddsConditions w n (from_start (program_in w) (procedure_in w) n (at_loop k)) old new
