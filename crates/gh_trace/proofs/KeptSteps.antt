-- Of a kept step it is enough to decide the step as which it is seen, and so of a kept check.
use Rattle.std.specs.Prelude.{◌≡◌, ◌↔◌, Bool, Result, IfOk, IsTrue}
use Rattle.std.proofs.Common.{sym, subst}
use Rattle.std.proofs.lemmas.Result.{IfOk-weaker}
use Rattle.gh_base.specs.declared.place.Span.{Span}
use Rattle.gh_path.specs.Kept.{step_of, asked_at}
use Rattle.gh_path.specs.declared.condition.CheckKind.{CheckKind}
use Rattle.gh_path.specs.declared.condition.PathStep.{PathStep}
use Rattle.gh_trace.specs.Decisions.{DecidesTaken, DecidesStep, DecidesCheck}
use Rattle.gh_trace.specs.Kept.{state_of}
use Rattle.gh_trace.specs.Settings.{whole, here}
use Rattle.gh_trace.specs.Traces.{StepLeads, Passes}
use Rattle.gh_trace.specs.declared.setting.Setting.{Setting}
use Rattle.gh_trace.specs.declared.state.State.{State}

pub decided_kept : {E : Type 0} (result : Result Bool E) (setting : Setting) (r q : PathStep) (D : Bool → Type 0)
    (x y : State) → r ≡ q
    → ((b : Bool) → D b → IsTrue b ↔ StepLeads (whole setting) (here setting) (step_of q) (state_of x) (state_of y))
    → IfOk result D → IfOk result (DecidesStep setting r x y)
decided_kept result setting r q D x y same decide =
    IfOk-weaker result D (DecidesStep setting r x y)
    (λ b w. subst (λ z. IsTrue b ↔ StepLeads (whole setting) (here setting) (step_of z) (state_of x) (state_of y))
    (sym same) (decide b w))

-- a step that says the same in each procedure
pub decided_taken : {E : Type 0} (result : Result Bool E) (setting : Setting) (r q : PathStep) (x y : State) → r ≡ q
    → IfOk result (DecidesTaken (step_of q) x y) → IfOk result (DecidesStep setting r x y)
decided_taken result setting r q x y same =
    decided_kept result setting r q (DecidesTaken (step_of q) x y) x y same (λ b w. w (whole setting) (here setting))

-- and of the kind of a kept check the check
pub check_decided : (setting : Setting) (r q : CheckKind) (x : State) (b : Bool) → r ≡ q
    → ((at : Span) → IsTrue b ↔ Passes (whole setting) (here setting) (asked_at q at) (state_of x))
    → DecidesCheck setting r x b
check_decided setting r q x b same decide at =
    subst (λ z. IsTrue b ↔ Passes (whole setting) (here setting) (asked_at z at) (state_of x)) (sym same) (decide at)

-- so of what is decided of it
pub decided_check : {E : Type 0} (result : Result Bool E) (setting : Setting) (r q : CheckKind) (D : Bool → Type 0)
    (x : State) → r ≡ q
    → ((b : Bool) → D b → (at : Span) → IsTrue b ↔ Passes (whole setting) (here setting) (asked_at q at) (state_of x))
    → IfOk result D → IfOk result (DecidesCheck setting r x)
decided_check result setting r q D x same decide =
    IfOk-weaker result D (DecidesCheck setting r x) (λ b w. check_decided setting r q x b same (decide b w))
