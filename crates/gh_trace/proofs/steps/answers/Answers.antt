use Rattle.std.proofs.Common.{◌≡◌, ◌∙◌, sym, subst, ap, Some, map}
use Rattle.std.specs.Prelude.{IfNone, IfSome}
use Rattle.gh_ast.specs.Plain.{procedure_of}
use Rattle.gh_ast.specs.Programs.{names, results_of}
use Rattle.gh_ast.proofs.Lists.{same_values}
use Rattle.gh_assert.specs.Stores.{store_of}
use Rattle.gh_assert.specs.Values.{result, Give, Gets, HasUnread}
use Rattle.gh_assert.proofs.Given.{not_given}
use Rattle.gh_trace.proofs.steps.answers.Goals as goal

pub returns-in_default : goal.returns-in_default
returns-in_default c =
    let s = store_of c.args.before.now.store in
    let h = c.args.before.now.heap in
    let none : HasUnread s h c.args.exprs.now =
    subst (λ o. IfNone o (HasUnread s h c.args.exprs.now)) c.in_default.is c.in_ok-given.ensures.unread in
    (λ f. absurd cc, λ takes. absurd (not_given s h c.args.exprs.now takes.0 none takes.1))

pub returns-then-not-branch : goal.returns-then-not-branch
returns-then-not-branch c =
    let s = store_of c.args.before.now.store in
    let h = c.args.before.now.heap in
    let xs = results_of (procedure_of c.args.setting.procedure.now) in
    let t = store_of c.args.after.now.store in
    let given : Give s h c.args.exprs.now c.in-Some.given.items =
    subst (λ o. IfSome o (λ vs. Give s h c.args.exprs.now vs.items)) c.in-Some.is c.in_ok-given.ensures.all in (
      λ f. absurd cc,
      λ takes.
          (let same : takes.0 ≡ c.as_slice.result.now = same_values takes.0 c.as_slice.result.now
          (sym takes.1 ∙ given ∙ ap (map Some) (sym c.as_slice.ensures.value)) in
          let gets : Gets s (names c.as_slice-results.result.now) c.as_slice.result.now t =
          subst (λ os. Gets s (names os) c.as_slice.result.now t) (sym c.as_slice-results.ensures.value)
          (subst (λ vs. Gets s xs vs t) same takes.2) in
          let holds = c.in_ok-gets.ensures.1 gets in absurd cc),
    )
