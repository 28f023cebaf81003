use Rattle.std.proofs.Common.{◌∙◌, sym, ap, subst, length}
use Rattle.std.specs.Prelude.{IfNone, IfSome, slice_get}
use Rattle.std.proofs.lemmas.Result.{IfOk-weaker}
use Rattle.gh_ast.specs.Plain.{procedure_of, program_of}
use Rattle.gh_ast.proofs.Lists.{not_both}
use Rattle.gh_assert.specs.Stores.{store_of}
use Rattle.gh_assert.specs.Values.{result, Give, HasUnread}
use Rattle.gh_trace.specs.Kept.{state_of}
use Rattle.gh_assert.proofs.Given.{not_given}
use Rattle.gh_trace.proofs.CallLemmas.{IsCall, count_called, count_targets, calls_where}
use Rattle.gh_trace.proofs.steps.calls.Goals as goal

pub returns-in_default : goal.returns-in_default
returns-in_default c = (
  λ t. absurd cc,
  λ takes. absurd (not_both (slice_get (program_of c.args.setting.typed.now).procedures c.args.call.callee) takes.0
      takes.2 c.in_default.ensures.none),
)

pub returns-in_default-2 : goal.returns-in_default-2
returns-in_default-2 c =
    let s = store_of c.args.before.now.store in
    let h = c.args.before.now.heap in
    let none : HasUnread s h c.args.call.arguments.now =
    subst (λ o. IfNone o (HasUnread s h c.args.call.arguments.now)) c.in_default-2.is
    c.in_ok-given.ensures.unread in
    (λ t. absurd cc, λ takes. absurd (not_given s h c.args.call.arguments.now takes.1 none takes.3))

pub returns-then-as_slice : goal.returns-then-as_slice
returns-then-as_slice c =
    let P = program_of c.args.setting.typed.now in
    let proc = procedure_of c.args.setting.procedure.now in
    let q = procedure_of c.in-Some.callee.now in
    let x = state_of c.args.before.now in
    let es = c.args.call.arguments.now in
    let call : IsCall P c.args.call.callee q es x c.in-Some-2.given.items = record {
      callee = c.in-Some.ensures.some;
      gives = subst (λ o. IfSome o (λ vs. Give x.store x.heap es vs.items)) c.in-Some-2.is c.in_ok-given.ensures.all;
    } in (
      λ t. absurd cc,
      λ takes. absurd (c.if-as_slice.true
          (ap length c.as_slice.ensures.value
          ∙ count_called P proc c.args.call.callee q c.args.call.targets.now es x (state_of c.args.after.now)
          c.in-Some-2.given.items call takes ∙ sym (ap length c.as_slice-2.ensures.value))),
    )

pub returns-then-targets-as_slice : goal.returns-then-targets-as_slice
returns-then-targets-as_slice c = (
  λ t. absurd cc,
  λ takes. absurd (c.if-targets-as_slice.true
      (count_targets (program_of c.args.setting.typed.now) (procedure_of c.args.setting.procedure.now)
      c.args.call.callee (procedure_of c.in-Some.callee.now) c.args.call.targets.now c.args.call.arguments.now
      (state_of c.args.before.now) (state_of c.args.after.now) c.in-Some.ensures.some takes
      ∙ sym (ap length c.as_slice-3.ensures.value))),
)

pub returns : goal.returns
returns c =
    let P = program_of c.args.setting.typed.now in
    let proc = procedure_of c.args.setting.procedure.now in
    let q = procedure_of c.in-Some.callee.now in
    let x = state_of c.args.before.now in
    let y = state_of c.args.after.now in
    let es = c.args.call.arguments.now in
    let xs = c.args.call.targets.now in
    let gives : Give x.store x.heap es c.in-Some-2.given.items =
    subst (λ o. IfSome o (λ vs. Give x.store x.heap es vs.items)) c.in-Some-2.is c.in_ok-given.ensures.all in
    IfOk-weaker c.is_answered.result _ _
    (λ b w.
    let call : IsCall P c.args.call.callee q es x c.as_slice-4.result.now =
    record {
      callee = c.in-Some.ensures.some;
      gives = subst (λ vs. Give x.store x.heap es vs) (sym c.as_slice-4.ensures.value) gives;
    } in
    let r =
    calls_where P proc c.args.call.callee q xs es x y c.as_slice-4.result.now (store_of c.in_ok-inside.inside) call
    c.in-Some.ensures.own c.in_ok-inside.ensures.given
    (c.in_ok-inside.ensures.results ∙ c.as_slice-5.ensures.value ∙ c.in_ok-results.ensures)
    (c.keeps.ensures.0 c.if-not-keeps.false) in
    (λ t. r.0 (w.0 t), λ takes. w.1 (r.1 takes))) c.is_answered.ensures
