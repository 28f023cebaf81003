-- What states say of an essence.
use Rattle.std.specs.Prelude.{◌≡◌, ◌≢◌, ℕ, List, [], ◌∷◌, map, get_or, Some, None, true, Contains}
use Rattle.std.specs.FinMap.{get, insert, remove}
use Rattle.gh_ast.specs.Programs.{Name}
use Rattle.gh_assert.specs.Meaning.{Store, Meaning, HasPart, MeetsOneOf}
use Rattle.gh_assert.specs.Walks.{Allocated}
use Rattle.gh_assert.specs.Values.{result, Give, compared, Gets}
use Rattle.gh_trace.specs.Traces.{State, Replaced, last_state}
use Rattle.gh_trace.specs.Replay.{Drawn}
use Rattle.gh_session.specs.Essences.{Contract, LoopContract, no_contract, no_loop_contract, Step, access_step}
use Rattle.gh_session.specs.Essences.{assume_step, set_step, new_step, write_step, free_step, call_step, while_step}
use Rattle.gh_session.specs.Essences.{return_step, Start, at_entry, at_loop, Check, access, callee_entry, loop_entry}
use Rattle.gh_session.specs.Essences.{return_check, loop_end, Essence}

abbrev pub contract_at : Essence → ℕ → Contract
contract_at E n = get_or E.contracts n no_contract

abbrev pub loop_contract_at : Essence → ℕ → LoopContract
loop_contract_at E n = get_or E.loops n no_loop_contract

-- the contract of the condition's own procedure
abbrev pub own : Essence → Contract
own E = contract_at E 0

abbrev pub StartsIn : Essence → Start → State → Type 0
StartsIn E at_entry x = Meaning (own E).needs x.store x.heap
StartsIn E (at_loop n) x = Meaning (loop_contract_at E n).invariant x.store x.heap

-- a call by the contract k leads from x to y, with the argument values vs and the targets xs
pub record CallLeads (k : Contract) (vs : List ℕ) (xs : List Name) (x y : State) : Type 0 where
  pub inside : Store
  pub arguments : map inside k.parameters ≡ vs
  pub targets : Gets x.store xs (map inside k.results) y.store
  pub replaced : Replaced k.needs inside x.heap (MeetsOneOf k.gives inside) y.heap

-- the step leads from the state x to the state y
abbrev pub StepLeads : Essence → Step → State → State → Type 0
StepLeads E (access_step a) x y = Allocated x.heap (x.store a) × (y ≡ x)
StepLeads E (assume_step l e r) x y =
    (compared e (result x.store x.heap l) (result x.store x.heap r) ≡ Some true) × (y ≡ x)
StepLeads E (set_step a e) x y =
    (v : ℕ) × (result x.store x.heap e ≡ Some v) × Gets x.store (a ∷ []) (v ∷ []) y.store × (y.heap ≡ x.heap)
StepLeads E (new_step a) x y =
    (l : ℕ) × (v : ℕ) × (l ≢ 0) × (get x.heap l ≡ None) × Gets x.store (a ∷ []) (l ∷ []) y.store
    × (y.heap ≡ insert x.heap l v)
StepLeads E (write_step a e) x y =
    (v : ℕ) × (result x.store x.heap e ≡ Some v) × Allocated x.heap (x.store a)
    × (y ≡ record { store = x.store; heap = insert x.heap (x.store a) v })
StepLeads E (free_step a) x y =
    Allocated x.heap (x.store a) × (y ≡ record { store = x.store; heap = remove x.heap (x.store a) })
StepLeads E (call_step xs n es) x y = (vs : List ℕ) × Give x.store x.heap es vs × CallLeads (contract_at E n) vs xs x y
StepLeads E (while_step n) x y =
    Replaced (loop_contract_at E n).invariant x.store x.heap (Meaning (loop_contract_at E n).invariant y.store) y.heap
    × ((a : Name) → (Contains (loop_contract_at E n).assigned a → ⊥) → y.store a ≡ x.store a)
StepLeads E (return_step es) x y =
    (vs : List ℕ) × Give x.store x.heap es vs × Gets x.store (own E).results vs y.store × (y.heap ≡ x.heap)

-- the state passes the check
abbrev pub Passes : Essence → Check → State → Type 0
Passes E (access a) x = Allocated x.heap (x.store a)
Passes E (callee_entry n es) x =
    (vs : List ℕ) (inside : Store) → Give x.store x.heap es vs → map inside (contract_at E n).parameters ≡ vs
    → HasPart (contract_at E n).needs inside x.heap
Passes E (loop_entry n) x = HasPart (loop_contract_at E n).invariant x.store x.heap
Passes E return_check x = MeetsOneOf (own E).gives x.store x.heap
Passes E (loop_end n) x = Meaning (loop_contract_at E n).invariant x.store x.heap

-- one state for each step, after the first state
abbrev pub IsTrace : Essence → State → List Step → List State → Type 0
IsTrace E x [] [] = Unit {0}
IsTrace E x [] (y ∷ ys) = ⊥
IsTrace E x (p ∷ ps) [] = ⊥
IsTrace E x (p ∷ ps) (y ∷ ys) = StepLeads E p x y × IsTrace E y ps ys

-- the states start as the essence says and follow its steps, and the last one doesn't pass its check
pub record Counterexample (E : Essence) (x : State) (ys : List State) : Type 0 where
  pub begins : StartsIn E E.start x
  pub leads : IsTrace E x E.steps ys
  pub fails : Passes E E.check (last_state x ys) → ⊥

-- all stores are over the variables, and the states are a counterexample
pub record RefutesEssence (E : Essence) (xs : List Drawn) : Type 0 where
  pub first : Drawn
  pub others : List Drawn
  pub states : xs ≡ first ∷ others
  pub over : (x : Drawn) → Contains xs x → x.listed ≡ E.variables
  pub counterexample : Counterexample E first.state (map (λ x. x.state) others)

abbrev pub IsValid : Essence → Type 0
IsValid E = (x : State) (ys : List State) → Counterexample E x ys → ⊥
