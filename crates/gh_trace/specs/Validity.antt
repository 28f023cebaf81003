-- Counterexamples of conditions, and which conditions of a program are valid.
use Rattle.std.specs.Prelude.{List, [], ◌∷◌, Contains}
use Rattle.gh_ast.specs.Plain.{Procedure, Program}
use Rattle.gh_path.specs.Graphs.{meets_at}
use Rattle.gh_path.specs.Conditions.{Condition, conditions, IsOf}
use Rattle.gh_trace.specs.Traces.{State, Counterexample}

-- the state x and the states ys after it are a counterexample of the condition c of the procedure proc
abbrev pub IsCounterexample : Program → Procedure → Condition → State → List State → Type 0
IsCounterexample P proc c x ys = Counterexample P proc (meets_at proc c.start) c.way.steps c.way.check x ys

-- the list of states is a counterexample of the condition
abbrev pub AreCounterexample : Program → Condition → List State → Type 0
AreCounterexample P c [] = ⊥
AreCounterexample P c (x ∷ ys) = (proc : Procedure) × IsOf P c proc × IsCounterexample P proc c x ys

abbrev pub HasCounterexample : Program → Condition → Type 0
HasCounterexample P c = (xs : List State) × AreCounterexample P c xs

-- no states are a counterexample
abbrev pub IsConditionValid : Program → Condition → Type 0
IsConditionValid P c =
    (proc : Procedure) → IsOf P c proc → (x : State) (ys : List State) → IsCounterexample P proc c x ys → ⊥

-- each of the listed conditions is valid
abbrev pub ListedAreValid : Program → Type 0
ListedAreValid P = (c : Condition) → Contains (conditions P) c → IsConditionValid P c
