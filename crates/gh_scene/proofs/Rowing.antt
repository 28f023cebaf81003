-- Rows that are added in turn.
use Rattle.std.specs.Prelude.{◌≡◌, List, [], ◌∷◌, ◌++◌, map}
use Rattle.std.proofs.Common.{refl, sym, ◌∙◌, ap, subst, append-nil}
use Rattle.std.proofs.lemmas.List.{append_assoc}
use Rattle.gh_ast.specs.Plain.{Procedure, Program}
use Rattle.gh_assert.specs.Heaps.{Heap}
use Rattle.gh_path.specs.Graphs.{PathStep}
use Rattle.gh_path.specs.Kept.{step_of}
use Rattle.gh_path.specs.declared.condition.PathStep as kept
use Rattle.gh_picture.specs.declared.scene.Row.{Row}
use Rattle.gh_scene.specs.Rows.{IsRowOf, left_at_end, AreRows, AddsRows}
use Rattle.gh_trace.specs.declared.state.State.{State}

-- no row is added
adds_none : (P : Program) (proc : Procedure) (ss : List PathStep) (xs : List State) (spare : Heap) (old : List Row)
    → AreRows P proc ss xs spare [] → AddsRows P proc ss xs spare old old
adds_none P proc ss xs spare old are = record { rest = []; whole = sym (append-nil old); rows = are }

-- no step is left
pub no_step : (P : Program) (proc : Procedure) (rs : List kept.PathStep) (xs : List State) (spare : Heap)
    (old : List Row) → rs ≡ [] → AddsRows P proc (map step_of rs) xs spare old old
no_step P proc rs xs spare old e =
    subst (λ ks. AddsRows P proc (map step_of ks) xs spare old old) (sym e) (adds_none P proc [] xs spare old refl)

-- no state is left, or one
pub no_state : (P : Program) (proc : Procedure) (ss : List PathStep) (xs : List State) (spare : Heap) (old : List Row)
    → xs ≡ [] → AddsRows P proc ss xs spare old old
no_state P proc ss xs spare old e = subst (λ ys. AddsRows P proc ss ys spare old old) (sym e) (none ss)
  where
    none : (ss : List PathStep) → AddsRows P proc ss [] spare old old
    none [] = adds_none P proc [] [] spare old refl
    none (s ∷ ss) = adds_none P proc (s ∷ ss) [] spare old refl

pub one_state : (P : Program) (proc : Procedure) (ss : List PathStep) (xs ys : List State) (x : State) (spare : Heap)
    (old : List Row) → xs ≡ x ∷ ys → ys ≡ [] → AddsRows P proc ss xs spare old old
one_state P proc ss xs ys x spare old e f =
    subst (λ zs. AddsRows P proc ss zs spare old old) (sym (e ∙ ap (λ zs. x ∷ zs) f)) (one ss)
  where
    one : (ss : List PathStep) → AddsRows P proc ss (x ∷ []) spare old old
    one [] = adds_none P proc [] (x ∷ []) spare old refl
    one (s ∷ ss) = adds_none P proc (s ∷ ss) (x ∷ []) spare old refl

-- a row more
one_more : (P : Program) (proc : Procedure) (s : PathStep) (ss : List PathStep) (x y : State) (ys : List State)
    (spare : Heap) (old pushed new : List Row) (r : Row) → pushed ≡ old ++ r ∷ []
    → IsRowOf P proc s x y (left_at_end ys spare) r
    → AddsRows P proc ss (y ∷ ys) spare pushed new → AddsRows P proc (s ∷ ss) (x ∷ y ∷ ys) spare old new
one_more P proc s ss x y ys spare old pushed new r e is adds = record {
  rest = r ∷ adds.rest;
  whole = adds.whole ∙ ap (λ rs. rs ++ adds.rest) e ∙ append_assoc old (r ∷ []) adds.rest;
  rows = (r, adds.rest, refl, is, adds.rows);
}

-- a row, and those of the later steps
pub row_first : (P : Program) (proc : Procedure) (k : kept.PathStep) (ks : List kept.PathStep) (rs : List kept.PathStep)
    (x y : State) (ys others xs : List State) (spare left : Heap) (old pushed new : List Row) (r : Row)
    → rs ≡ k ∷ ks → xs ≡ x ∷ others → others ≡ y ∷ ys → left ≡ left_at_end ys spare → pushed ≡ old ++ r ∷ []
    → IsRowOf P proc (step_of k) x y left r → AddsRows P proc (map step_of ks) others spare pushed new
    → AddsRows P proc (map step_of rs) xs spare old new
row_first P proc k ks rs x y ys others xs spare left old pushed new r e states later_states at_left push is later =
    let whole : xs ≡ x ∷ y ∷ ys = states ∙ ap (λ zs. x ∷ zs) later_states in
    let all : AddsRows P proc (step_of k ∷ map step_of ks) (x ∷ y ∷ ys) spare old new =
    one_more P proc (step_of k) (map step_of ks) x y ys spare old pushed new r push
    (subst (λ h. IsRowOf P proc (step_of k) x y h r) at_left is)
    (subst (λ zs. AddsRows P proc (map step_of ks) zs spare pushed new) later_states later) in
    subst (λ zs. AddsRows P proc (map step_of zs) xs spare old new) (sym e)
    (subst (λ zs. AddsRows P proc (step_of k ∷ map step_of ks) zs spare old new) (sym whole) all)
