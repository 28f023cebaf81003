-- Counterexamples with the fewest cells in the first heap.
use Rattle.std.specs.Prelude.{◌≡◌, ◌↔◌, ◌≤◌, ℕ, List, [], ◌∷◌, Option, Some, None}
use Rattle.std.specs.FinMap.{len}
use Rattle.gh_ast.specs.Plain.{Procedure, Program}
use Rattle.gh_path.specs.Conditions.{Condition, IsOf}
use Rattle.gh_path.specs.Kept.{condition_of, HoldsFor}
use Rattle.gh_path.specs.declared.condition.Condition as kept
use Rattle.gh_symb.specs.Symbolic.{symbolic_of}
use Rattle.gh_symb.specs.Formulas.{problem}
use Rattle.gh_trace.specs.Traces.{State}
use Rattle.gh_trace.specs.Replay.{Drawn, IsDrawnCounterexample}
use Rattle.gh_trace.specs.Kept.{drawn_of, HasNoCounterexample}
use Rattle.gh_trace.specs.Validity.{IsCounterexample}
use Rattle.gh_small.specs.Models.{IsLowest}
use Rattle.gh_small.specs.declared.found.Smallest.{Smallest}

-- how many cells the first heap of a trace has
abbrev pub first_cells : List Drawn → ℕ
first_cells [] = 0
first_cells (x ∷ xs) = len x.state.heap

-- no counterexample of the condition has fewer cells in its first heap
abbrev pub IsLeast : Program → Condition → ℕ → Type 0
IsLeast P c cells =
    (proc : Procedure) → IsOf P c proc → (x : State) (ys : List State) → IsCounterexample P proc c x ys
    → cells ≤ len x.heap

-- the trace is a counterexample with so many cells in its first heap, and none has fewer; where there is a cell, the
-- section shows that
pub record IsSmallest (P : Program) (r : kept.Condition) (s : Smallest) : Type 0 where
  pub counterexample : IsDrawnCounterexample P (condition_of r) (drawn_of s.trace)
  pub count : s.cells ≡ first_cells (drawn_of s.trace)
  pub least : IsLeast P (condition_of r) s.cells
  pub lowest : HoldsFor P r (λ P proc c. IsLowest (problem (symbolic_of P proc c)) s.cells s.section)

-- the condition is valid, or this is the smallest of its counterexamples
abbrev pub IsSmallestFound : Program → kept.Condition → Option Smallest → Type 0
IsSmallestFound P r None = HasNoCounterexample P r
IsSmallestFound P r (Some s) = IsSmallest P r s

-- nothing is found exactly where the condition has no counterexample
abbrev pub FoundIsExact : Type 0
FoundIsExact =
    (P : Program) (r : kept.Condition) (found : Option Smallest) → IsSmallestFound P r found
    → (found ≡ None) ↔ HasNoCounterexample P r
