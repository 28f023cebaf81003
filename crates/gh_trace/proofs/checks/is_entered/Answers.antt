use Rattle.std.proofs.Common.{subst, refl}
use Rattle.std.specs.Prelude.{slice_get}
use Rattle.std.proofs.lemmas.Result.{IfOk-weaker}
use Rattle.gh_ast.specs.Plain.{procedure_of, program_of}
use Rattle.gh_ast.proofs.Lists.{not_both}
use Rattle.gh_assert.specs.Stores.{store_of}
use Rattle.gh_trace.specs.Kept.{state_of}
use Rattle.gh_trace.specs.Settings.{IsEntered, IsEnteredOr, IsNeverEntered}
use Rattle.gh_trace.proofs.CallLemmas.{IsCall, never_entered, enters_where}
use Rattle.gh_trace.proofs.checks.is_entered.Goals as goal

pub returns-in_default : goal.returns-in_default
returns-in_default c at = (
  λ t q vs inside is give params. absurd
      (not_both (slice_get (program_of c.args.setting.typed.now).procedures c.args.callee) q is
      c.in_default.ensures.none),
  λ passes. refl,
)

pub returns-in_default-2 : goal.returns-in_default-2
returns-in_default-2 c at =
    let P = program_of c.args.setting.typed.now in
    let q = procedure_of c.in-Some.callee.now in
    let x = state_of c.args.state.now in
    let es = c.args.arguments.now in
    let none : IsNeverEntered q es x = subst (IsEnteredOr q es x) c.in_default-2.is c.in_ok-inside.ensures in (
      λ t r vs inside is give params. absurd
          (never_entered P c.args.callee q r es x vs inside c.in-Some.ensures.some none is give params),
      λ passes. refl,
    )

pub returns : goal.returns
returns c =
    let P = program_of c.args.setting.typed.now in
    let proc = procedure_of c.args.setting.procedure.now in
    let q = procedure_of c.in-Some.callee.now in
    let x = state_of c.args.state.now in
    let es = c.args.arguments.now in
    let entered : IsEntered q es x (store_of c.in-Some-2.inside) =
    subst (IsEnteredOr q es x) c.in-Some-2.is c.in_ok-inside.ensures in
    IfOk-weaker c.has_part.result _ _
    (λ b w at.
    let call : IsCall P c.args.callee q es x _ = record { callee = c.in-Some.ensures.some; gives = entered } in
    let r =
    enters_where P proc at c.args.callee q es x _ (store_of c.in-Some-2.inside) call c.in-Some.ensures.own refl in
    (λ t. r.0 (w.0 t), λ passes. w.1 (r.1 passes))) c.has_part.ensures
