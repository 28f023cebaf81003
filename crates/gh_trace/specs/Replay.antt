-- Where a list of states first fails to be a counterexample.
use Rattle.std.specs.Prelude.{◌≡◌, ◌⊎◌, ℕ, suc, List, [], ◌∷◌, map, Contains}
use Rattle.gh_ast.specs.Plain.{Assertion, Procedure, Program}
use Rattle.gh_ast.specs.Programs.{Name, variable_names}
use Rattle.gh_assert.specs.Meaning.{Meaning}
use Rattle.gh_path.specs.Graphs.{Check, PathStep, meets_at}
use Rattle.gh_path.specs.Conditions.{Condition, IsOf}
use Rattle.gh_trace.specs.Traces.{State, StepLeads, Passes}
use Rattle.gh_trace.specs.Validity.{IsCounterexample}

-- a state as it is drawn: the names that its store lists, in their order, and the state
pub record Drawn : Type 0 where
  pub listed : List Name
  pub state : State

-- the store is over the variables, and the heap meets the assertion
abbrev pub Begins : Procedure → Assertion → Drawn → Type 0
Begins p f x = (x.listed ≡ variable_names p) × Meaning f x.state.store x.state.heap

-- the store is over the variables, and the step leads to the state
abbrev pub LeadsTo : Program → Procedure → PathStep → State → Drawn → Type 0
LeadsTo P proc s x y = (y.listed ≡ variable_names proc) × StepLeads P proc s x y.state

-- a state is missing, or the step doesn't lead to it; or at the end the check is passed, or more states follow. These
-- steps are counted from 1, and the check as one more
abbrev pub FailsAfter : Program → Procedure → State → List PathStep → Check → List Drawn → ℕ → Type 0
FailsAfter P proc x [] c [] n = Passes P proc c x × (n ≡ 1)
FailsAfter P proc x [] c (y ∷ ys) n = n ≡ 1
FailsAfter P proc x (s ∷ ss) c [] n = n ≡ 1
FailsAfter P proc x (s ∷ ss) c (y ∷ ys) n =
    ((LeadsTo P proc s x y → ⊥) × (n ≡ 1))
    ⊎ (LeadsTo P proc s x y × (k : ℕ) × (n ≡ suc k) × FailsAfter P proc y.state ss c ys k)

-- the number of the first step that fails: 0 where there is no first state, or the start isn't as it should be
abbrev pub FailsFirst : Program → Procedure → Assertion → List PathStep → Check → List Drawn → ℕ → Type 0
FailsFirst P proc f ss c [] n = n ≡ 0
FailsFirst P proc f ss c (x ∷ ys) n =
    ((Begins proc f x → ⊥) × (n ≡ 0)) ⊎ (Begins proc f x × FailsAfter P proc x.state ss c ys n)

abbrev pub FirstFailure : Program → Condition → List Drawn → ℕ → Type 0
FirstFailure P c xs n =
    (proc : Procedure) × IsOf P c proc × FailsFirst P proc (meets_at proc c.start) c.way.steps c.way.check xs n

-- all stores are over the variables, and the states are a counterexample
pub record IsDrawnCounterexample (P : Program) (c : Condition) (xs : List Drawn) : Type 0 where
  pub procedure : Procedure
  pub of : IsOf P c procedure
  pub first : Drawn
  pub others : List Drawn
  pub states : xs ≡ first ∷ others
  pub over : (x : Drawn) → Contains xs x → x.listed ≡ variable_names procedure
  pub counterexample : IsCounterexample P procedure c first.state (map (λ x. x.state) others)
