-- States and traces as they are kept, and what a kept condition asks of them.
use Rattle.std.specs.Prelude.{◌≡◌, List, map}
use Rattle.gh_ast.specs.Plain.{Program}
use Rattle.gh_assert.specs.Stores.{listed_names, store_of}
use Rattle.gh_path.specs.Kept.{condition_of}
use Rattle.gh_path.specs.declared.condition.Condition as kept_condition
use Rattle.gh_trace.specs.Traces.{State}
use Rattle.gh_trace.specs.Replay.{Drawn, FirstFailure}
use Rattle.gh_trace.specs.Validity.{IsConditionValid}
use Rattle.gh_trace.specs.declared.state.State as kept_state
use Rattle.gh_trace.specs.declared.state.Trace as kept_trace
use Rattle.gh_trace.specs.declared.replay.ReplayError.{ReplayError}
use Rattle.gh_trace.specs.declared.replay.ReplayError.TheVariants.{Step, OutOfMemory}

abbrev pub state_of : kept_state.State → State
state_of s = record { store = store_of s.store; heap = s.heap }

-- the stores list the same names
abbrev pub ListsAlike : kept_state.State → kept_state.State → Type 0
ListsAlike x y = listed_names y.store ≡ listed_names x.store

abbrev pub drawn : kept_state.State → Drawn
drawn s = record { listed = listed_names s.store; state = state_of s }

abbrev pub drawn_of : kept_trace.Trace → List Drawn
drawn_of t = map drawn t.states.items

-- an error other than out of memory has the number of the first failure
abbrev pub IsFailure : Program → kept_condition.Condition → List Drawn → ReplayError → Type 0
IsFailure P r xs (Step n) = FirstFailure P (condition_of r) xs n
IsFailure P r xs OutOfMemory = Unit {0}

-- no states are a counterexample
abbrev pub HasNoCounterexample : Program → kept_condition.Condition → Type 0
HasNoCounterexample P r = IsConditionValid P (condition_of r)
