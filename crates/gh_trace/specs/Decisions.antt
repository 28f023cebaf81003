-- What the tests of steps and of checks answer: b is true exactly where the step leads on, or the check is passed.
use Rattle.std.specs.Prelude.{◌≡◌, ◌↔◌, ℕ, Bool, List, map, IsTrue}
use Rattle.gh_base.specs.declared.place.Span.{Span}
use Rattle.gh_ast.specs.declared.Expr.{Expr}
use Rattle.gh_ast.specs.declared.Assertion.{Assertion}
use Rattle.gh_ast.specs.Plain.{Procedure, Program, assertion_of}
use Rattle.gh_path.specs.Graphs as graph
use Rattle.gh_path.specs.Kept.{step_of, start_of, asked_at}
use Rattle.gh_path.specs.declared.condition.CheckKind.{CheckKind}
use Rattle.gh_path.specs.declared.condition.Condition.{Condition}
use Rattle.gh_path.specs.declared.condition.PathStep.{PathStep}
use Rattle.gh_path.specs.declared.condition.Start.{Start}
use Rattle.gh_trace.specs.Kept.{state_of, drawn}
use Rattle.gh_trace.specs.Replay.{Begins, LeadsTo}
use Rattle.gh_trace.specs.Rest.{IsRefutedAfter, IsFailureAfter}
use Rattle.gh_trace.specs.Settings.{whole, here}
use Rattle.gh_trace.specs.Traces.{Passes, StepLeads}
use Rattle.gh_trace.specs.declared.replay.ReplayError.{ReplayError}
use Rattle.gh_trace.specs.declared.setting.Setting.{Setting}
use Rattle.gh_trace.specs.declared.state.State.{State}
use Rattle.gh_trace.specs.declared.steps.Call.{Call}

-- a step that says the same in each procedure
abbrev pub DecidesTaken : graph.PathStep → State → State → Bool → Type 0
DecidesTaken s x y b = (P : Program) (proc : Procedure) → IsTrue b ↔ StepLeads P proc s (state_of x) (state_of y)

-- a step in the setting
abbrev pub DecidesIn : Setting → graph.PathStep → State → State → Bool → Type 0
DecidesIn setting s x y b = IsTrue b ↔ StepLeads (whole setting) (here setting) s (state_of x) (state_of y)

-- a call of the procedure of a number
abbrev pub DecidesCall : Setting → Call → State → State → Bool → Type 0
DecidesCall setting call x y b =
    DecidesIn setting (graph.call_step call.targets.now call.callee call.arguments.now) x y b

-- a return of some values
abbrev pub DecidesReturn : Setting → List Expr → State → State → Bool → Type 0
DecidesReturn setting es x y b = DecidesIn setting (graph.return_step es) x y b

-- the loop of a number
abbrev pub DecidesLoop : Setting → ℕ → State → State → Bool → Type 0
DecidesLoop setting n x y b = DecidesIn setting (graph.while_step n) x y b

-- any step that is kept
abbrev pub DecidesStep : Setting → PathStep → State → State → Bool → Type 0
DecidesStep setting r x y b = DecidesIn setting (step_of r) x y b

-- and that the state after it is over the variables
abbrev pub DecidesNext : Setting → PathStep → State → State → Bool → Type 0
DecidesNext setting r x y b = IsTrue b ↔ LeadsTo (whole setting) (here setting) (step_of r) (state_of x) (drawn y)

-- the first heap of a path from a start meets the assertion
abbrev pub IsMetAtStart : Setting → Start → Assertion → Type 0
IsMetAtStart setting at f = graph.meets_at (here setting) (start_of at) ≡ assertion_of f

-- the start of a path
abbrev pub DecidesStart : Setting → Start → State → Bool → Type 0
DecidesStart setting at x b = IsTrue b ↔ Begins (here setting) (graph.meets_at (here setting) (start_of at)) (drawn x)

-- what the callee of a number needs
abbrev pub DecidesEntry : Setting → ℕ → List Expr → State → Bool → Type 0
DecidesEntry setting n es x b =
    (at : Span) → IsTrue b ↔ Passes (whole setting) (here setting) (graph.callee_entry at n es) (state_of x)

-- the invariant of the loop of a number, where it is entered and where its body ends
abbrev pub DecidesLoopEntry : Setting → ℕ → State → Bool → Type 0
DecidesLoopEntry setting n x b =
    (at : Span) → IsTrue b ↔ Passes (whole setting) (here setting) (graph.loop_entry at n) (state_of x)

abbrev pub DecidesLoopEnd : Setting → ℕ → State → Bool → Type 0
DecidesLoopEnd setting n x b =
    (at : Span) → IsTrue b ↔ Passes (whole setting) (here setting) (graph.loop_end at n) (state_of x)

-- any check that is kept
abbrev pub DecidesCheck : Setting → CheckKind → State → Bool → Type 0
DecidesCheck setting kind x b =
    (at : Span) → IsTrue b ↔ Passes (whole setting) (here setting) (asked_at kind at) (state_of x)

-- from the first state on, the others refute the condition
abbrev pub IsRefutedIn : Setting → Condition → State → List State → Type 0
IsRefutedIn setting r x ys = IsRefutedAfter (whole setting) (here setting) r (state_of x) (map drawn ys)

-- and an error has the number of the first failure
abbrev pub IsFailureIn : Setting → Condition → State → List State → ReplayError → Type 0
IsFailureIn setting r x ys = IsFailureAfter (whole setting) (here setting) r (state_of x) (map drawn ys)
