-- What a step hands over.
use Rattle.std.specs.Prelude.{◌≡◌, ℕ, List, map, Option, Some, None}
use Rattle.gh_ast.specs.declared.Expr.{Expr}
use Rattle.gh_ast.specs.declared.Occ.{Occ}
use Rattle.gh_ast.specs.Plain.{Procedure, Program}
use Rattle.gh_ast.specs.Programs.{parameters_of}
use Rattle.gh_assert.specs.Meaning.{Store}
use Rattle.gh_assert.specs.Values.{Give}
use Rattle.gh_path.specs.Graphs.{While, PathStep, access_step, assume_step, set_step, new_step, write_step, free_step}
use Rattle.gh_path.specs.Graphs.{call_step, while_step, return_step, IsProcedureAt, IsLoopAt}
use Rattle.gh_path.specs.Kept.{step_of}
use Rattle.gh_path.specs.declared.condition.PathStep as kept_step
use Rattle.gh_trace.specs.Kept.{state_of}
use Rattle.gh_trace.specs.Settings.{here, whole}
use Rattle.gh_trace.specs.Traces.{State}
use Rattle.gh_trace.specs.declared.setting.Setting.{Setting}
use Rattle.gh_trace.specs.declared.state.State as kept_state
use Rattle.gh_lens.specs.declared.exchange.Exchange.{Exchange}
use Rattle.gh_lens.specs.Exchanges.{IsExchange}

-- the exchange of a call of q with the argument values vs, by what q requires
pub record IsCallExchange (q : Procedure) (vs : List ℕ) (x y : State) (e : Exchange) : Type 0 where
  pub inside : Store
  pub arguments : map inside (parameters_of q) ≡ vs
  pub exchange : IsExchange q.needs inside x.heap y.heap e

-- only a call and a loop hand cells over: by what the callee requires, and by the invariant
abbrev pub IsHanded : Program → Procedure → PathStep → State → State → Exchange → Type 0
IsHanded P proc (access_step o) x y e = ⊥
IsHanded P proc (assume_step l c r) x y e = ⊥
IsHanded P proc (set_step o v) x y e = ⊥
IsHanded P proc (new_step o) x y e = ⊥
IsHanded P proc (write_step o v) x y e = ⊥
IsHanded P proc (free_step o) x y e = ⊥
IsHanded P proc (call_step xs n es) x y e =
    (q : Procedure) × (vs : List ℕ) × IsProcedureAt P n q × Give x.store x.heap es vs × IsCallExchange q vs x y e
IsHanded P proc (while_step n) x y e = (l : While) × IsLoopAt proc n l × IsExchange l.invariant x.store x.heap y.heap e
IsHanded P proc (return_step es) x y e = ⊥

-- what is handed over; or nothing is
abbrev pub IsHandedOr : Program → Procedure → PathStep → State → State → Option Exchange → Type 0
IsHandedOr P proc s x y (Some e) = IsHanded P proc s x y e
IsHandedOr P proc s x y None = (e : Exchange) → IsHanded P proc s x y e → ⊥

-- what a step hands over between two states
abbrev pub IsHandedIn : Setting → PathStep → kept_state.State → kept_state.State → Option Exchange → Type 0
IsHandedIn setting s x y o = IsHandedOr (whole setting) (here setting) s (state_of x) (state_of y) o

-- the same of a call of the procedure of a number, of the loop of a number, and of a step as it is kept
abbrev pub IsHandedToCallee : Setting → ℕ → List Expr → kept_state.State → kept_state.State → Option Exchange → Type 0
IsHandedToCallee setting callee es x y o = (xs : List Occ) → IsHandedIn setting (call_step xs callee es) x y o

abbrev pub IsHandedToLoop : Setting → ℕ → kept_state.State → kept_state.State → Option Exchange → Type 0
IsHandedToLoop setting number x y o = IsHandedIn setting (while_step number) x y o

abbrev pub IsHandedBetween : Setting → kept_step.PathStep → kept_state.State → kept_state.State → Option Exchange
    → Type 0
IsHandedBetween setting step x y o = IsHandedIn setting (step_of step) x y o
