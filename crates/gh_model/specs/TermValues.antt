-- The values of the terms of a condition in a trace.
use Rattle.std.specs.Prelude.{◌≡◌, ℕ, ◌+◌, List, [], ◌∷◌, length, map, slice_get, Some, Contains}
use Rattle.std.specs.FinMap.{get}
use Rattle.gh_ast.specs.Plain.{Procedure, Program}
use Rattle.gh_ast.specs.Programs.{Name, names, results_of}
use Rattle.gh_assert.specs.Meaning.{Store}
use Rattle.gh_assert.specs.Walks.{succ}
use Rattle.gh_path.specs.Graphs as path
use Rattle.gh_path.specs.Conditions.{Condition}
use Rattle.gh_path.specs.Graphs.{IsProcedureAt}
use Rattle.gh_path.specs.Terms.{Kind, next, Bindings}
use Rattle.gh_symb.specs.Symbolic.{Under, TermStep, access_step, assume_step, same_step, write_step, new_step}
use Rattle.gh_symb.specs.Symbolic.{free_step, part_step, symbolic_of}
use Rattle.gh_trace.specs.Traces.{State}

-- writes, new and freed cells, calls and loops begin the next version of the heap
abbrev pub path_version : path.PathStep → ℕ → ℕ
path_version (path.access_step o) i = i
path_version (path.assume_step l e r) i = i
path_version (path.set_step x e) i = i
path_version (path.new_step x) i = i + 1
path_version (path.write_step x e) i = i + 1
path_version (path.free_step x) i = i + 1
path_version (path.call_step ys n es) i = i + 1
path_version (path.while_step n) i = i + 1
path_version (path.return_step es) i = i

-- in a state with heap version i: what follows a term has the value that follows that of the term, and the term of a
-- variable has the value that the store gives the variable
pub record HasStateValues (K : List Kind) (V : List ℕ) (i : ℕ) (b : Bindings) (x : State) : Type 0 where
  pub next : (t u v : ℕ) → slice_get K t ≡ Some (next i u) → slice_get V u ≡ Some v
      → slice_get V t ≡ Some (succ x.heap v)
  pub bound : (y : Name) (t : ℕ) → b y ≡ Some t → slice_get V t ≡ Some (x.store y)

-- the terms of a new cell's place and content have these as their values, in the state y after the step
abbrev pub HasCellValues : List ℕ → TermStep → State → Type 0
HasCellValues V (new_step l t) y =
    (v : ℕ) × (w : ℕ) × (slice_get V l ≡ Some v) × (slice_get V t ≡ Some w) × (get y.heap v ≡ Some w)
HasCellValues V (access_step t) y = Unit {0}
HasCellValues V (assume_step t e u) y = Unit {0}
HasCellValues V same_step y = Unit {0}
HasCellValues V (write_step t u) y = Unit {0}
HasCellValues V (free_step t) y = Unit {0}
HasCellValues V (part_step b a) y = Unit {0}

-- a call's results have the values that its targets get, whatever alternative speaks of them
abbrev pub HasResultValues : Program → List ℕ → path.PathStep → TermStep → State → Type 0
HasResultValues P V (path.call_step ys n es) (part_step b as') y =
    (proc : Procedure) (inside : Store) → IsProcedureAt P n proc → map inside (results_of proc) ≡ map y.store (names ys)
    →
    (a : Under) → Contains as' a → (r : Name) (t : ℕ) → Contains (results_of proc) r → a.binding r ≡ Some t
    → slice_get V t ≡ Some (inside r)
HasResultValues P V _ _ y = Unit {0}

-- the states of a path, and the steps between them
abbrev pub HaveValues : Program → List Kind → List ℕ → List path.PathStep → List TermStep → List Bindings → ℕ → State
    → List State → Type 0
HaveValues P K V [] qs [] i x ys = ⊥
HaveValues P K V [] qs (b ∷ bs) i x ys = HasStateValues K V i b x
HaveValues P K V (proc ∷ ps) [] bs i x ys = ⊥
HaveValues P K V (proc ∷ ps) (q ∷ qs) [] i x ys = ⊥
HaveValues P K V (proc ∷ ps) (q ∷ qs) (b ∷ bs) i x [] = ⊥
HaveValues P K V (proc ∷ ps) (q ∷ qs) (b ∷ bs) i x (y ∷ ys) =
    HasStateValues K V i b x × HasCellValues V q y × HasResultValues P V proc q y
    × HaveValues P K V ps qs bs (path_version proc i) y ys

-- a value for each term. In a program that keeps the type rules there is one such list: a successor's value comes from
-- that of an earlier term in a state of its version, each version having one heap; a value was made for a variable that
-- is bound to it in the state where it is used, for a variable that a loop assigns, bound to it in the state after, for
-- a new cell, or for a result
pub record AreTermValues (P : Program) (proc : Procedure) (c : Condition) (x : State) (ys : List State)
    (V : List ℕ) : Type 0 where
  pub count : length V ≡ length (symbolic_of P proc c).terms
  pub null : slice_get V 0 ≡ Some 0
  pub along : HaveValues P (symbolic_of P proc c).terms V c.way.steps (symbolic_of P proc c).steps
      (symbolic_of P proc c).bindings 0 x ys
