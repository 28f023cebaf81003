-- The laws.
use Rattle.std.specs.Prelude.{◌≡◌, ◌↔◌, ℕ, suc, ◌≤◌, List, length, ◌++◌, map, false, Some, Contains, All}
use Rattle.gh_base.specs.declared.place.Span.{Span}
use Rattle.gh_ast.specs.declared.Occ.{Occ}
use Rattle.gh_ast.specs.declared.Expr.{Expr}
use Rattle.gh_ast.specs.Plain.{Assertion, Procedure, Program, Cond}
use Rattle.gh_ast.specs.Programs.{Name, names, parameters_of, results_of}
use Rattle.gh_ast.specs.Names.{AssertionIn}
use Rattle.gh_ast.specs.WellFormed.{IsFormedCond}
use Rattle.gh_assert.specs.Heaps.{Heap, IsProper, Splits}
use Rattle.gh_assert.specs.Meaning.{Store, Meaning, HasPart, MeetsOneOf, truth}
use Rattle.gh_assert.specs.Values.{Give, outcome}
use Rattle.gh_path.specs.Graphs.{Check, callee_entry, PathStep, call_step, IsProcedureAt}
use Rattle.gh_path.specs.Conditions.{Condition, IsOf}
use Rattle.gh_trace.specs.Traces.{State, Replaced, StepLeads, Passes, IsTrace, last_state}
use Rattle.gh_trace.specs.Replay.{Drawn, FirstFailure, IsDrawnCounterexample}

-- drawn states have at most one first failure; they have none where they refute the condition, and some where they
-- don't
pub record FailuresAreOne : Type 0 where
  pub one : (P : Program) (c : Condition) (xs : List Drawn) (n m : ℕ) → FirstFailure P c xs n → FirstFailure P c xs m
      → n ≡ m
  pub none : (P : Program) (c : Condition) (xs : List Drawn) → IsDrawnCounterexample P c xs → (n : ℕ) → FirstFailure P c xs n → ⊥
  pub some : (P : Program) (c : Condition) (proc : Procedure) (xs : List Drawn) → IsOf P c proc
      → ((n : ℕ) → FirstFailure P c xs n → ⊥) → (IsDrawnCounterexample P c xs → ⊥) → ⊥
  pub within : (P : Program) (c : Condition) (xs : List Drawn) (n : ℕ) → FirstFailure P c xs n
      → n ≤ suc (length c.way.steps)

-- from a heap that meets an assertion no trace leads to a cell at null
abbrev pub TracesAreProper : Type 0
TracesAreProper =
    (P : Program) (proc : Procedure) (f : Assertion) (x : State) (ss : List PathStep) (ys : List State)
    → Meaning f x.store x.heap → IsTrace P proc x ss ys → IsProper (last_state x ys).heap

-- a check that doesn't fail is passed
abbrev pub ChecksAreDecided : Type 0
ChecksAreDecided =
    (P : Program) (proc : Procedure) (c : Check) (x : State) → IsProper x.heap → ((Passes P proc c x → ⊥) → ⊥)
    → Passes P proc c x

-- any split that shows the part tells what stays: the rest of the heap is judged by Q
abbrev pub IsToldBySplits : Assertion → Store → Heap → (Heap → Type 0) → Heap → Type 0
IsToldBySplits f s h Q k =
    (part frame : Heap) → Splits h part frame → Meaning f s part
    → Replaced f s h Q k ↔ ((other : Heap) × Splits k other frame × Q other)

-- at most one part meets an assertion, so splits tell a replacement by one assertion, and by one of some alternatives
pub record PartsAreReplaced : Type 0 where
  pub one : (f g : Assertion) (s t : Store) (h k : Heap) → IsToldBySplits f s h (Meaning g t) k
  pub one_of : (f : Assertion) (gs : List Assertion) (s t : Store) (h k : Heap)
      → IsToldBySplits f s h (MeetsOneOf gs t) k

-- a callee's assertions speak of its parameters, `ensures` of its results too
pub record HasOwnNames (p : Procedure) : Type 0 where
  pub needs_in : AssertionIn p.needs (parameters_of p)
  pub gives_in : All (λ f. AssertionIn f (parameters_of p ++ results_of p)) p.gives

-- any store that gives the parameters the arguments' values decides the check of a call
abbrev pub EntriesAreOne : Type 0
EntriesAreOne =
    (P : Program) (proc : Procedure) (at : Span) (n : ℕ) (es : List Expr) (x : State) (q : Procedure) (vs : List ℕ)
    (inside : Store) → HasOwnNames q → IsProcedureAt P n q →
    Give x.store x.heap es vs → map inside (parameters_of q) ≡ vs
    → Passes P proc (callee_entry at n es) x ↔ HasPart q.needs inside x.heap

-- and one that also gives the results what the targets got decides its step
abbrev pub CallsAreOne : Type 0
CallsAreOne =
    (P : Program) (proc : Procedure) (xs : List Occ) (n : ℕ) (es : List Expr) (x y : State) (q : Procedure)
    (vs : List ℕ) (inside : Store) → HasOwnNames q → IsProcedureAt P n q →
    Give x.store x.heap es vs → map inside (parameters_of q) ≡ vs → map inside (results_of q) ≡ map y.store (names xs) →
    StepLeads P proc (call_step xs n es) x y
    ↔ (((m : Name) → (Contains (names xs) m → ⊥) → y.store m ≡ x.store m)
    × Replaced q.needs inside x.heap (MeetsOneOf q.gives inside) y.heap)

-- a test without reads, as those of assertions are, gives in any heap the truth that it has in an assertion
abbrev pub TestsGiveTheirTruth : Type 0
TestsGiveTheirTruth = (s : Store) (h : Heap) (t : Cond) → IsFormedCond false t → outcome s h t ≡ Some (truth s t)
