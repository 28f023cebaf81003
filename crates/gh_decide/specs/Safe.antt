-- From which states on no check fails.
use Rattle.std.specs.Prelude.{List, not, Contains}
use Rattle.gh_assert.specs.Meaning.{Meaning}
use Rattle.gh_ast.specs.Plain.{Procedure, Program}
use Rattle.gh_path.specs.Graphs.{Check, PathStep, Graph, dead_end, ends, moves, guarded, fork, assume_step, Start}
use Rattle.gh_path.specs.Graphs.{starts, meets_at, graph_from}
use Rattle.gh_path.specs.Paths.{Path}
use Rattle.gh_trace.specs.Traces.{State, StepLeads, Passes, IsTrace, last_state}

-- from the state on, no path of the graph, which is one of the procedure proc, comes to a check that fails
abbrev pub Safe : Program → Procedure → Graph → State → Type 0
Safe P proc dead_end x = Unit {0}
Safe P proc (ends c) x = Passes P proc c x
Safe P proc (moves s g) x = (y : State) → StepLeads P proc s x y → Safe P proc g y
Safe P proc (guarded c s g) x = Passes P proc c x × ((y : State) → StepLeads P proc s x y → Safe P proc g y)
Safe P proc (fork l e r g k) x =
    ((y : State) → StepLeads P proc (assume_step l e r) x y → Safe P proc g y)
    × ((y : State) → StepLeads P proc (assume_step l (not e) r) x y → Safe P proc k y)

-- the same by whole paths: each path's check is passed in the last state of each trace of the path from x
abbrev pub PathsPass : Program → Procedure → Graph → State → Type 0
PathsPass P proc g x =
    (ss : List PathStep) (c : Check) → Path g ss c → (ys : List State) → IsTrace P proc x ss ys
    → Passes P proc c (last_state x ys)

-- each check of each path from each start is passed
abbrev pub AllPass : Program → Type 0
AllPass P =
    (q : Procedure) → Contains P.procedures q → (a : Start) → Contains (starts q) a → (x : State)
    → Meaning (meets_at q a) x.store x.heap → PathsPass P q (graph_from P q a) x
