use Rattle.std.proofs.Common.{sym, subst}
use Rattle.std.proofs.lemmas.Result.{IfOk-weaker}
use Rattle.gh_ast.specs.Plain.{procedure_of, program_of}
use Rattle.gh_trace.specs.Kept.{state_of}
use Rattle.gh_lens.specs.Misses.{IsFailingOr}
use Rattle.gh_lens.proofs.Missing.{callee_or, loop_entry_or, loop_end_or}
use Rattle.gh_lens.proofs.misses.failing.Goals as goal

pub returns-in-CalleeEntry : goal.returns-in-CalleeEntry
returns-in-CalleeEntry c =
    let P = program_of c.args.setting.typed.now in
    let proc = procedure_of c.args.setting.procedure.now in
    let x = state_of c.args.state.now in
    IfOk-weaker c.entry_miss.result _ (IsFailingOr P proc c.args.kind.now x)
    (λ o is. subst (λ m. IsFailingOr P proc m x o) (sym c.in-CalleeEntry.is)
    (callee_or P proc c.in-CalleeEntry.callee c.in-CalleeEntry.arguments c.as_slice.result.now x o
    c.as_slice.ensures.value is)) c.entry_miss.ensures

pub returns-in-LoopEntry : goal.returns-in-LoopEntry
returns-in-LoopEntry c =
    let P = program_of c.args.setting.typed.now in
    let proc = procedure_of c.args.setting.procedure.now in
    let x = state_of c.args.state.now in
    IfOk-weaker c.invariant_miss.result _ (IsFailingOr P proc c.args.kind.now x)
    (λ o is. subst (λ m. IsFailingOr P proc m x o) (sym c.in-LoopEntry.is)
    (loop_entry_or P proc c.in-LoopEntry.number x o is)) c.invariant_miss.ensures

pub returns-in-LoopEnd : goal.returns-in-LoopEnd
returns-in-LoopEnd c =
    let P = program_of c.args.setting.typed.now in
    let proc = procedure_of c.args.setting.procedure.now in
    let x = state_of c.args.state.now in
    IfOk-weaker c.invariant_miss-in-LoopEnd.result _ (IsFailingOr P proc c.args.kind.now x)
    (λ o is. subst (λ m. IsFailingOr P proc m x o) (sym c.in-LoopEnd.is)
    (loop_end_or P proc c.in-LoopEnd.number x o is)) c.invariant_miss-in-LoopEnd.ensures
