use Rattle.std.proofs.Common.{refl, subst}
use Rattle.gh_ast.specs.Plain.{procedure_of, program_of}
use Rattle.gh_assert.specs.Stores.{store_of}
use Rattle.gh_trace.specs.Kept.{state_of}
use Rattle.gh_trace.specs.Settings.{IsEntered, IsEnteredOr, IsNeverEntered}
use Rattle.gh_trace.proofs.CallLemmas.{IsCall, never_entered}
use Rattle.gh_lens.proofs.Handing.{call_hands, stands_there, with_both}
use Rattle.gh_lens.proofs.handed.handed_to_callee.Goals as goal

pub unreachable-requires : goal.unreachable-requires
unreachable-requires c =
    stands_there (program_of c.args.setting.typed.now).procedures c.args.callee c.requires c.in_default.ensures.none

pub returns-in_default-2 : goal.returns-in_default-2
returns-in_default-2 c xs e (r, vs, is, give, ex) =
    let P = program_of c.args.setting.typed.now in
    let q = procedure_of c.in-Some.callee.now in
    let x = state_of c.args.before.now in
    let es = c.args.arguments.now in
    let none : IsNeverEntered q es x = subst (IsEnteredOr q es x) c.in_default-2.is c.in_ok-inside.ensures in
    never_entered P c.args.callee q r es x vs ex.inside c.in-Some.ensures.some none is give ex.arguments

pub returns : goal.returns
returns c =
    let P = program_of c.args.setting.typed.now in
    let proc = procedure_of c.args.setting.procedure.now in
    let q = procedure_of c.in-Some.callee.now in
    let x = state_of c.args.before.now in
    let y = state_of c.args.after.now in
    let es = c.args.arguments.now in
    let inside = store_of c.in-Some-2.inside in
    let entered : IsEntered q es x inside = subst (IsEnteredOr q es x) c.in-Some-2.is c.in_ok-inside.ensures in
    let call : IsCall P c.args.callee q es x _ = record { callee = c.in-Some.ensures.some; gives = entered } in
    with_both c.exchanged.result _ _ _
    (λ o some none xs. call_hands P proc c.args.callee q xs es x y _ inside o call c.in-Some.ensures.own refl some none)
    c.exchanged.ensures.some c.exchanged.ensures.none
