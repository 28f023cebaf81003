-- Calls by the number of the callee.
use Rattle.std.specs.Prelude.{◌≡◌, ◌↔◌, ℕ, List, length, map, slice_get}
use Rattle.std.proofs.Common.{sym, ◌∙◌, ap, subst}
use Rattle.std.proofs.lemmas.List.{length-map}
use Rattle.gh_base.specs.declared.place.Span.{Span}
use Rattle.gh_ast.specs.declared.Occ.{Occ}
use Rattle.gh_ast.specs.declared.Expr.{Expr}
use Rattle.gh_ast.specs.Plain.{Procedure, Program}
use Rattle.gh_ast.specs.Programs.{names, parameters_of, results_of}
use Rattle.gh_ast.proofs.Lists.{same_values, one_value}
use Rattle.gh_assert.specs.Meaning.{Store, MeetsOneOf, HasPart}
use Rattle.gh_assert.specs.Values.{Give}
use Rattle.gh_path.specs.Graphs.{call_step, callee_entry, IsProcedureAt}
use Rattle.gh_trace.specs.Settings.{IsEntered, IsNeverEntered}
use Rattle.gh_trace.specs.Traces.{State, Replaced, StepLeads, Passes}
use Rattle.gh_trace.specs.Laws.{HasOwnNames}
use Rattle.gh_trace.proofs.Calls.{entries_are_one, calls_are_one}
use Rattle.gh_trace.proofs.StepLemmas.{Kept}

-- the callee of a number, and the values of the arguments
pub record IsCall (P : Program) (n : ℕ) (q : Procedure) (es : List Expr) (x : State) (given : List ℕ) : Type 0 where
  pub callee : IsProcedureAt P n q
  pub gives : Give x.store x.heap es given

-- as many values as parameters
pub count_given : (P : Program) (n : ℕ) (q r : Procedure) (es : List Expr) (x : State) (given vs : List ℕ)
    (inside : Store) → IsCall P n q es x given → IsProcedureAt P n r → Give x.store x.heap es vs
    → map inside (parameters_of r) ≡ vs
    → length given ≡ length q.parameters
count_given P n q r es x given vs inside call is give arguments =
    let same : r ≡ q = one_value (slice_get P.procedures n) r q is call.callee in
    let values : vs ≡ given = same_values vs given (sym give ∙ call.gives) in
    ap length (sym values) ∙ ap length (sym arguments) ∙ length-map (parameters_of r) inside
    ∙ length-map r.parameters (λ (o : Occ). o.name) ∙ ap (λ (z : Procedure). length z.parameters) same

pub count_entered : (q : Procedure) (es : List Expr) (x : State) (given : List ℕ) (inside : Store)
    → Give x.store x.heap es given → IsEntered q es x inside → length given ≡ length q.parameters
count_entered q es x given inside gives entered =
    let values : given ≡ map inside (parameters_of q) =
    same_values given (map inside (parameters_of q)) (sym gives ∙ entered) in
    ap length values ∙ length-map (parameters_of q) inside ∙ length-map q.parameters (λ (o : Occ). o.name)

-- a procedure that is never entered
pub never_entered : (P : Program) (n : ℕ) (q r : Procedure) (es : List Expr) (x : State) (vs : List ℕ) (inside : Store)
    → IsProcedureAt P n q → IsNeverEntered q es x
    → IsProcedureAt P n r → Give x.store x.heap es vs → map inside (parameters_of r) ≡ vs → ⊥
never_entered P n q r es x vs inside callee none is give arguments =
    let same : r ≡ q = one_value (slice_get P.procedures n) r q is callee in
    let values : vs ≡ map inside (parameters_of q) =
    sym arguments ∙ ap (λ (z : Procedure). map inside (parameters_of z)) same in
    none inside (subst (λ (ws : List ℕ). Give x.store x.heap es ws) values give)

pub count_called : (P : Program) (proc : Procedure) (n : ℕ) (q : Procedure) (xs : List Occ) (es : List Expr)
    (x y : State) (given : List ℕ) → IsCall P n q es x given → StepLeads P proc (call_step xs n es) x y
    → length given ≡ length q.parameters
count_called P proc n q xs es x y given call (r, vs, is, give, c) =
    count_given P n q r es x given vs c.inside call is give c.arguments

pub count_targets : (P : Program) (proc : Procedure) (n : ℕ) (q : Procedure) (xs : List Occ) (es : List Expr)
    (x y : State) → IsProcedureAt P n q → StepLeads P proc (call_step xs n es) x y → length xs ≡ length q.results
count_targets P proc n q xs es x y callee (r, vs, is, give, c) =
    let same : r ≡ q = one_value (slice_get P.procedures n) r q is callee in
    sym (length-map (names xs) y.store ∙ length-map xs (λ (o : Occ). o.name)) ∙ ap length c.targets.given
    ∙ length-map (results_of r) c.inside ∙ length-map r.results (λ (o : Occ). o.name)
    ∙ ap (λ (z : Procedure). length z.results) same

pub calls_where : (P : Program) (proc : Procedure) (n : ℕ) (q : Procedure) (xs : List Occ) (es : List Expr)
    (x y : State) (given : List ℕ) (inside : Store) → IsCall P n q es x given → HasOwnNames q
    → map inside (parameters_of q) ≡ given
    → map inside (results_of q) ≡ map y.store (names xs) → Kept (names xs) x.store y.store
    → Replaced q.needs inside x.heap (MeetsOneOf q.gives inside) y.heap ↔ StepLeads P proc (call_step xs n es) x y
calls_where P proc n q xs es x y given inside call own arguments results kept =
    let r = calls_are_one P proc xs n es x y q given inside own call.callee call.gives arguments results in
    (λ replaced. r.1 (kept, replaced), λ takes. (r.0 takes).1)

pub enters_where : (P : Program) (proc : Procedure) (at : Span) (n : ℕ) (q : Procedure) (es : List Expr) (x : State)
    (given : List ℕ) (inside : Store) → IsCall P n q es x given → HasOwnNames q → map inside (parameters_of q) ≡ given
    → HasPart q.needs inside x.heap ↔ Passes P proc (callee_entry at n es) x
enters_where P proc at n q es x given inside call own arguments =
    let r = entries_are_one P proc at n es x q given inside own call.callee call.gives arguments in
    (λ part. r.1 part, λ passes. r.0 passes)
