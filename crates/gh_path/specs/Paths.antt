-- Paths of a graph, and their order.
use Rattle.std.specs.Prelude.{List, [], ◌∷◌, ◌++◌, map, not, Bool, Contains, ◌↔◌}
use Rattle.gh_ast.specs.declared.Expr.{Expr}
use Rattle.gh_path.specs.Graphs.{Check, PathStep, assume_step, Graph, dead_end, ends, moves, guarded, fork}

-- the steps lead from the graph's first node to a node with the check
pub data Path : Graph → List PathStep → Check → Type 0 where
  at_end : {c : Check} → Path (ends c) [] c
  arrived : {g : Graph} {step : PathStep} {c : Check} → Path (guarded c step g) [] c
  past : {g : Graph} {d : Check} {step : PathStep} {ps : List PathStep} {c : Check} → Path g ps c
      → Path (guarded d step g) (step ∷ ps) c
  on : {g : Graph} {step : PathStep} {ps : List PathStep} {c : Check} → Path g ps c → Path (moves step g) (step ∷ ps) c
  on_true : {l : Expr} {e : Bool} {r : Expr} {g k : Graph} {ps : List PathStep} {c : Check} → Path g ps c
      → Path (fork l e r g k) (assume_step l e r ∷ ps) c
  on_false : {l : Expr} {e : Bool} {r : Expr} {g k : Graph} {ps : List PathStep} {c : Check} → Path k ps c
      → Path (fork l e r g k) (assume_step l (not e) r ∷ ps) c

-- of two paths of a graph the one that the other goes on from stands first; else the one that takes the way of the true
-- comparison where they part
pub data Before : Graph → List PathStep → List PathStep → Type 0 where
  shorter : {g : Graph} {step : PathStep} {ps : List PathStep} → Before g [] (step ∷ ps)
  past : {c : Check} {step : PathStep} {g : Graph} {ps qs : List PathStep} → Before g ps qs
      → Before (guarded c step g) (step ∷ ps) (step ∷ qs)
  on : {step : PathStep} {g : Graph} {ps qs : List PathStep} → Before g ps qs
      → Before (moves step g) (step ∷ ps) (step ∷ qs)
  both_true : {l : Expr} {e : Bool} {r : Expr} {g k : Graph} {ps qs : List PathStep} → Before g ps qs
      → Before (fork l e r g k) (assume_step l e r ∷ ps) (assume_step l e r ∷ qs)
  both_false : {l : Expr} {e : Bool} {r : Expr} {g k : Graph} {ps qs : List PathStep} → Before k ps qs
      → Before (fork l e r g k) (assume_step l (not e) r ∷ ps) (assume_step l (not e) r ∷ qs)
  true_first : {l : Expr} {e : Bool} {r : Expr} {g k : Graph} {ps qs : List PathStep}
      → Before (fork l e r g k) (assume_step l e r ∷ ps) (assume_step l (not e) r ∷ qs)

-- the steps to a node, and its check
pub record Way : Type 0 where
  pub steps : List PathStep
  pub check : Check

-- each way stands before all that come after it in the list
abbrev pub IsInOrder : Graph → List Way → Type 0
IsInOrder g [] = Unit {0}
IsInOrder g (x ∷ xs) = ((y : Way) → Contains xs y → Before g x.steps y.steps) × IsInOrder g xs

-- all paths of the graph and nothing else, in order: there is one such list
pub record IsListOf (g : Graph) (xs : List Way) : Type 0 where
  pub members : (y : Way) → Contains xs y ↔ Path g y.steps y.check
  pub in_order : IsInOrder g xs

abbrev pub after_step : PathStep → Way → Way
after_step p x = record { steps = p ∷ x.steps; check = x.check }

abbrev pub ways : Graph → List Way
ways dead_end = []
ways (ends c) = record { steps = []; check = c } ∷ []
ways (moves p g) = map (after_step p) (ways g)
ways (guarded c p g) = record { steps = []; check = c } ∷ map (after_step p) (ways g)
ways (fork l e r g k) =
    map (after_step (assume_step l e r)) (ways g) ++ map (after_step (assume_step l (not e) r)) (ways k)
