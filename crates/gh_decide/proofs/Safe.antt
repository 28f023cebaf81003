-- Safe states and whole paths.
use Rattle.std.specs.Prelude.{List, [], ◌∷◌, not}
use Rattle.gh_ast.specs.Plain.{Procedure, Program}
use Rattle.gh_path.specs.Graphs.{Check, PathStep, assume_step, Graph, dead_end, ends, moves, guarded, fork}
use Rattle.gh_path.specs.Paths.{Path, at_end, arrived, past, on, on_true, on_false}
use Rattle.gh_trace.specs.Traces.{State, Passes, IsTrace, last_state}
use Rattle.gh_decide.specs.Safe.{Safe, PathsPass}
use Rattle.gh_decide.specs.Laws.{SafeMeansPathsPass}

pub from_paths : (P : Program) (proc : Procedure) (g : Graph) (x : State) → PathsPass P proc g x → Safe P proc g x
from_paths P proc dead_end x all = tt
from_paths P proc (ends c) x all = all [] c at_end [] tt
from_paths P proc (guarded c s g) x all = (
  all [] c arrived [] tt,
  λ y takes. from_paths P proc g y
      (λ ss d path ys t. all (s ∷ ss) d (past path) (y ∷ ys) (takes, t)),
)
from_paths P proc (moves s g) x all =
    λ y takes. from_paths P proc g y (λ ss d path ys t. all (s ∷ ss) d (on path) (y ∷ ys) (takes, t))
from_paths P proc (fork l e r g k) x all = (
  λ y takes. from_paths P proc g y
      (λ ss d path ys t. all (assume_step l e r ∷ ss) d (on_true path) (y ∷ ys) (takes, t)),
  λ y takes. from_paths P proc k y
      (λ ss d path ys t. all (assume_step l (not e) r ∷ ss) d (on_false path) (y ∷ ys) (takes, t)),
)

pub to_paths : (P : Program) (proc : Procedure) (g : Graph) (x : State) → Safe P proc g x
    → (ss : List PathStep) (c : Check) → Path g ss c → (ys : List State) → IsTrace P proc x ss ys
    → Passes P proc c (last_state x ys)
to_paths P proc _ x safe _ _ at_end [] t = safe
to_paths P proc _ x safe _ _ at_end (y ∷ ys) t = absurd t
to_paths P proc _ x safe _ _ arrived [] t = safe.0
to_paths P proc _ x safe _ _ arrived (y ∷ ys) t = absurd t
to_paths P proc _ x safe _ _ (past path) [] t = absurd t
to_paths P proc _ x safe _ _ (past path) (y ∷ ys) t = to_paths P proc _ y (safe.1 y t.0) _ _ path ys t.1
to_paths P proc _ x safe _ _ (on path) [] t = absurd t
to_paths P proc _ x safe _ _ (on path) (y ∷ ys) t = to_paths P proc _ y (safe y t.0) _ _ path ys t.1
to_paths P proc _ x safe _ _ (on_true path) [] t = absurd t
to_paths P proc _ x safe _ _ (on_true path) (y ∷ ys) t = to_paths P proc _ y (safe.0 y t.0) _ _ path ys t.1
to_paths P proc _ x safe _ _ (on_false path) [] t = absurd t
to_paths P proc _ x safe _ _ (on_false path) (y ∷ ys) t = to_paths P proc _ y (safe.1 y t.0) _ _ path ys t.1

pub safe_means_paths_pass : SafeMeansPathsPass
safe_means_paths_pass P proc g x = (to_paths P proc g x, from_paths P proc g x)
