-- The first condition of a program that isn't valid.
use Rattle.std.specs.Prelude.{◌≡◌, ℕ, ◌+◌, List, ◌∷◌, ◌++◌, length, Contains}
use Rattle.gh_ast.specs.Plain.{Program}
use Rattle.gh_path.specs.Conditions.{Condition, conditions}
use Rattle.gh_trace.specs.Kept.{drawn_of}
use Rattle.gh_trace.specs.Replay.{IsDrawnCounterexample}
use Rattle.gh_trace.specs.Validity.{IsConditionValid}
use Rattle.gh_trace.specs.declared.state.Trace.{Trace}

-- the condition of the number is the first that isn't valid, and the trace shows it
pub record ShowsFirst (P : Program) (number : ℕ) (trace : Trace) : Type 0 where
  pub before : List Condition
  pub condition : Condition
  pub after : List Condition
  pub whole : conditions P ≡ before ++ condition ∷ after
  pub number_is : number ≡ length before + 1
  pub valid : (d : Condition) → Contains before d → IsConditionValid P d
  pub refutes : IsDrawnCounterexample P condition (drawn_of trace)
