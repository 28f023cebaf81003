use Rattle.std.proofs.Common.{refl, subst}
use Rattle.gh_ast.specs.Plain.{procedure_of, program_of}
use Rattle.gh_assert.specs.Stores.{store_of}
use Rattle.gh_trace.specs.Kept.{state_of}
use Rattle.gh_trace.specs.Settings.{IsEntered, IsEnteredOr, IsNeverEntered}
use Rattle.gh_trace.proofs.CallLemmas.{IsCall, never_entered}
use Rattle.gh_lens.proofs.Missing.{entry_fails, no_callee}
use Rattle.gh_lens.proofs.misses.entry_miss.Goals as goal

pub returns-in_default : goal.returns-in_default
returns-in_default c =
    no_callee (program_of c.args.setting.typed.now) c.args.callee c.args.arguments.now (state_of c.args.state.now)
    c.in_default.ensures.none

pub returns-in_default-2 : goal.returns-in_default-2
returns-in_default-2 c proc at fails =
    let P = program_of c.args.setting.typed.now in
    let q = procedure_of c.in-Some.callee.now in
    let x = state_of c.args.state.now in
    let es = c.args.arguments.now in
    let none : IsNeverEntered q es x = subst (IsEnteredOr q es x) c.in_default-2.is c.in_ok-inside.ensures in
    fails (λ r vs inside is give params. absurd
    (never_entered P c.args.callee q r es x vs inside c.in-Some.ensures.some none is give params))

pub returns : goal.returns
returns c proc at =
    let P = program_of c.args.setting.typed.now in
    let q = procedure_of c.in-Some.callee.now in
    let x = state_of c.args.state.now in
    let es = c.args.arguments.now in
    let inside = store_of c.in-Some-2.inside in
    let entered : IsEntered q es x inside = subst (IsEnteredOr q es x) c.in-Some-2.is c.in_ok-inside.ensures in
    let call : IsCall P c.args.callee q es x _ = record { callee = c.in-Some.ensures.some; gives = entered } in
    entry_fails P proc at c.args.callee q es x _ inside c.in_ok-text.text call refl c.in_ok-text.ensures
