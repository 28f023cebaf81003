-- The laws on traces.
use Rattle.std.specs.Prelude.{ℕ, List, ◌∷◌, Contains}
use Rattle.gh_ast.specs.Plain.{Procedure, Program}
use Rattle.gh_ast.specs.Rules.{IsTyped}
use Rattle.gh_assert.specs.Ownership.{Owned}
use Rattle.gh_path.specs.Conditions.{Condition, IsCondition, IsOf}
use Rattle.gh_trace.specs.Traces.{State}
use Rattle.gh_trace.specs.Validity.{IsCounterexample}
use Rattle.gh_model.specs.TermValues.{AreTermValues}

-- in a counterexample the terms have values
abbrev pub ValuesExist : Type 0
ValuesExist =
    (P : Program) (proc : Procedure) (c : Condition) (x : State) (ys : List State) → IsTyped P → IsCondition P c
    → IsOf P c proc → IsCounterexample P proc c x ys →
    (V : List ℕ) × AreTermValues P proc c x ys V

-- and each of its heaps is owned over these values
abbrev pub TracesAreOwned : Type 0
TracesAreOwned =
    (P : Program) (proc : Procedure) (c : Condition) (x : State) (ys : List State) (V : List ℕ) → IsTyped P
    → IsCondition P c → IsOf P c proc → IsCounterexample P proc c x ys → AreTermValues P proc c x ys V →
    (y : State) → Contains (x ∷ ys) y → Owned V y.heap
