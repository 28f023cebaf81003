-- What a path's steps do, and counterexamples.
use Rattle.std.specs.Prelude.{◌≡◌, ◌≢◌, ℕ, List, [], ◌∷◌, map, Some, None, true}
use Rattle.std.specs.FinMap.{get, insert, remove}
use Rattle.gh_ast.specs.Plain.{Assertion, Procedure, Program}
use Rattle.gh_assert.specs.Heaps.{Heap, Splits}
use Rattle.gh_assert.specs.Meaning.{Store, Meaning, HasPart, MeetsOneOf}
use Rattle.gh_assert.specs.Walks.{Allocated}
use Rattle.gh_assert.specs.Values.{result, Give, compared, Gets}
use Rattle.gh_ast.specs.Programs.{Name, names, parameters_of, results_of, SomeAssigns}
use Rattle.gh_path.specs.Graphs.{Check, access, callee_entry, loop_entry, return_check, loop_end, PathStep, access_step}
use Rattle.gh_path.specs.Graphs.{assume_step, set_step, new_step, write_step, free_step, call_step, while_step}
use Rattle.gh_path.specs.Graphs.{return_step, While, IsProcedureAt, IsLoopAt}

-- the store tells a value for every name: one that lists names with values tells those, and 0 for each other name.
-- Whether it lists the procedure's variables, in their order, is asked of drawn states (`IsDrawnCounterexample`, `FirstFailure`).
-- A program that keeps the type rules neither reads nor assigns a name that is no variable
pub record State : Type 0 where
  pub store : Store
  pub heap : Heap

-- a part that meets the assertion gives way to one of which Q holds; the rest stays
pub record Replaced (f : Assertion) (s : Store) (h : Heap) (Q : Heap → Type 0) (k : Heap) : Type 0 where
  pub part : Heap
  pub frame : Heap
  pub other : Heap
  pub splits : Splits h part frame
  pub met : Meaning f s part
  pub joins : Splits k other frame
  pub meets : Q other

-- a call of p with the values vs, for the targets xs. `inside` is the callee's store: the parameters have vs, the
-- results what the targets get. A part that meets what p needs gives way to one that meets one of what it gives
pub record CallLeads (p : Procedure) (vs : List ℕ) (xs : List Name) (x y : State) : Type 0 where
  pub inside : Store
  pub arguments : map inside (parameters_of p) ≡ vs
  pub targets : Gets x.store xs (map inside (results_of p)) y.store
  pub replaced : Replaced p.needs inside x.heap (MeetsOneOf p.gives inside) y.heap

-- a part that meets the loop's invariant gives way to one that meets it in the next store, in which variables that the
-- loop doesn't assign keep their values
pub record LoopLeads (l : While) (x y : State) : Type 0 where
  pub replaced : Replaced l.invariant x.store x.heap (Meaning l.invariant y.store) y.heap
  pub kept : (n : Name) → (SomeAssigns l.body n → ⊥) → y.store n ≡ x.store n

-- a step of a path of the procedure proc leads from one state to another; that of a number that isn't there nowhere
abbrev pub StepLeads : Program → Procedure → PathStep → State → State → Type 0
StepLeads P proc (access_step o) x y = Allocated x.heap (x.store o.name) × (y ≡ x)
StepLeads P proc (assume_step l e r) x y =
    (compared e (result x.store x.heap l) (result x.store x.heap r) ≡ Some true) × (y ≡ x)
StepLeads P proc (set_step o e) x y =
    (v : ℕ) × (result x.store x.heap e ≡ Some v) × Gets x.store (o.name ∷ []) (v ∷ []) y.store × (y.heap ≡ x.heap)
StepLeads P proc (new_step o) x y =
    (l : ℕ) × (v : ℕ) × (l ≢ 0) × (get x.heap l ≡ None) × Gets x.store (o.name ∷ []) (l ∷ []) y.store
    × (y.heap ≡ insert x.heap l v)
StepLeads P proc (write_step o e) x y =
    (v : ℕ) × (result x.store x.heap e ≡ Some v) × Allocated x.heap (x.store o.name)
    × (y ≡ record { store = x.store; heap = insert x.heap (x.store o.name) v })
StepLeads P proc (free_step o) x y =
    Allocated x.heap (x.store o.name) × (y ≡ record { store = x.store; heap = remove x.heap (x.store o.name) })
StepLeads P proc (call_step xs n es) x y =
    (q : Procedure) × (vs : List ℕ) × IsProcedureAt P n q × Give x.store x.heap es vs × CallLeads q vs (names xs) x y
StepLeads P proc (while_step n) x y = (l : While) × IsLoopAt proc n l × LoopLeads l x y
StepLeads P proc (return_step es) x y =
    (vs : List ℕ) × Give x.store x.heap es vs × Gets x.store (results_of proc) vs y.store × (y.heap ≡ x.heap)

-- the check is passed in the state, as is one of a number that isn't there
abbrev pub Passes : Program → Procedure → Check → State → Type 0
Passes P proc (access o) x = Allocated x.heap (x.store o.name)
Passes P proc (callee_entry at n es) x =
    (q : Procedure) (vs : List ℕ) (inside : Store) → IsProcedureAt P n q → Give x.store x.heap es vs
    → map inside (parameters_of q) ≡ vs → HasPart q.needs inside x.heap
Passes P proc (loop_entry at n) x = (l : While) → IsLoopAt proc n l → HasPart l.invariant x.store x.heap
Passes P proc (return_check at) x = MeetsOneOf proc.gives x.store x.heap
Passes P proc (loop_end at n) x = (l : While) → IsLoopAt proc n l → Meaning l.invariant x.store x.heap

-- one state for each step, after the first state
abbrev pub IsTrace : Program → Procedure → State → List PathStep → List State → Type 0
IsTrace P proc x [] [] = Unit {0}
IsTrace P proc x [] (y ∷ ys) = ⊥
IsTrace P proc x (s ∷ ss) [] = ⊥
IsTrace P proc x (s ∷ ss) (y ∷ ys) = StepLeads P proc s x y × IsTrace P proc y ss ys

abbrev pub last_state : State → List State → State
last_state x [] = x
last_state x (y ∷ ys) = last_state y ys

-- the first heap meets the assertion whole, the steps lead on, and in the last state the check fails
pub record Counterexample (P : Program) (proc : Procedure) (f : Assertion) (ss : List PathStep) (c : Check) (x : State)
    (ys : List State) : Type 0 where
  pub begins : Meaning f x.store x.heap
  pub leads : IsTrace P proc x ss ys
  pub fails : Passes P proc c (last_state x ys) → ⊥
