use Rattle.std.proofs.Common.{◌∙◌, ap, length, subst, sym}
use Rattle.std.specs.Prelude.{IfNone, IfSome}
use Rattle.gh_ast.specs.Plain.{procedure_of}
use Rattle.gh_assert.specs.Values.{Give, HasUnread}
use Rattle.gh_trace.specs.Kept.{state_of}
use Rattle.gh_trace.proofs.CallLemmas.{count_entered}
use Rattle.gh_assert.proofs.Given.{not_given}
use Rattle.gh_trace.proofs.stores.entered.Goals as goal

pub returns-in_default : goal.returns-in_default
returns-in_default c inside gives =
    let x = state_of c.args.state.now in
    let es = c.args.arguments.now in
    let none : HasUnread x.store x.heap es =
    subst (λ o. IfNone o (HasUnread x.store x.heap es)) c.in_default.is c.in_ok-given.ensures.unread in
    not_given x.store x.heap es _ none gives

pub returns-then-as_slice : goal.returns-then-as_slice
returns-then-as_slice c inside entered =
    let x = state_of c.args.state.now in
    let es = c.args.arguments.now in
    let gives : Give x.store x.heap es c.in-Some.given.items =
    subst (λ o. IfSome o (λ vs. Give x.store x.heap es vs.items)) c.in-Some.is c.in_ok-given.ensures.all in
    c.if-as_slice.true (ap length c.as_slice.ensures.value
    ∙ count_entered (procedure_of c.args.callee.now) es x c.in-Some.given.items inside gives entered
    ∙ sym (ap length c.as_slice-2.ensures.value))

pub returns : goal.returns
returns c =
    let x = state_of c.args.state.now in
    let es = c.args.arguments.now in
    let gives : Give x.store x.heap es c.in-Some.given.items =
    subst (λ o. IfSome o (λ vs. Give x.store x.heap es vs.items)) c.in-Some.is c.in_ok-given.ensures.all in
    subst (λ vs. Give x.store x.heap es vs) (sym c.as_slice-3.ensures.value ∙ sym c.in_ok-inside.ensures) gives
