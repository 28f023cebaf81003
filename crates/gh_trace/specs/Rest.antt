-- What a walk along the steps finds.
use Rattle.std.specs.Prelude.{◌≡◌, List, map, Contains}
use Rattle.gh_ast.specs.Plain.{Procedure, Program}
use Rattle.gh_ast.specs.Programs.{variable_names}
use Rattle.gh_path.specs.Graphs.{Check, PathStep}
use Rattle.gh_path.specs.Kept.{condition_of}
use Rattle.gh_path.specs.declared.condition.Condition as kept_condition
use Rattle.gh_trace.specs.Traces.{State, Passes, IsTrace, last_state}
use Rattle.gh_trace.specs.Replay.{Drawn, FailsAfter}
use Rattle.gh_trace.specs.declared.replay.ReplayError.{ReplayError}
use Rattle.gh_trace.specs.declared.replay.ReplayError.TheVariants.{Step, OutOfMemory}

abbrev pub states : List Drawn → List State
states = map (λ y. y.state)

-- the states after x are over the variables, the steps lead to them, and the last one doesn't pass the check
pub record RefutesAfter (P : Program) (proc : Procedure) (x : State) (ss : List PathStep) (c : Check)
    (ys : List Drawn) : Type 0 where
  pub over : (y : Drawn) → Contains ys y → y.listed ≡ variable_names proc
  pub leads : IsTrace P proc x ss (states ys)
  pub fails : Passes P proc c (last_state x (states ys)) → ⊥

-- the same of the steps and the check that are kept
abbrev pub IsRefutedAfter : Program → Procedure → kept_condition.Condition → State → List Drawn → Type 0
IsRefutedAfter P proc r x ys = let w = (condition_of r).way in RefutesAfter P proc x w.steps w.check ys

abbrev pub IsFailureAfter : Program → Procedure → kept_condition.Condition → State → List Drawn → ReplayError → Type 0
IsFailureAfter P proc r x ys (Step n) = let w = (condition_of r).way in FailsAfter P proc x w.steps w.check ys n
IsFailureAfter P proc r x ys OutOfMemory = Unit {0}
