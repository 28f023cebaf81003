use Rattle.std.proofs.Common.{subst}
use Rattle.std.specs.Prelude.{◌↔◌, IsTrue}
use Rattle.gh_ast.specs.Plain.{procedure_of, program_of}
use Rattle.gh_assert.specs.Stores.{store_of}
use Rattle.gh_path.specs.Graphs.{callee_entry}
use Rattle.gh_trace.specs.Kept.{state_of}
use Rattle.gh_trace.specs.Traces.{Passes}
use Rattle.gh_trace.proofs.KeptSteps.{decided_check, check_decided}
use Rattle.gh_trace.proofs.StepLemmas.{allocated_where}
use Rattle.gh_trace.proofs.checks.passes.Goals as goal

pub returns-in-Access : goal.returns-in-Access
returns-in-Access c =
    check_decided c.args.setting c.args.kind.now _ c.args.state.now c.is_some.result c.in-Access.is
    (λ at. allocated_where c.args.state.now.heap (store_of c.args.state.now.store c.in-Access.at) c.value.result
    c.get.result c.is_some.result c.value.ensures c.get.ensures c.is_some.ensures)

pub returns-in-CalleeEntry : goal.returns-in-CalleeEntry
returns-in-CalleeEntry c =
    let P = program_of c.args.setting.typed.now in
    let proc = procedure_of c.args.setting.procedure.now in
    let x = state_of c.args.state.now in
    decided_check c.is_entered.result c.args.setting c.args.kind.now _ _ c.args.state.now c.in-CalleeEntry.is
    (λ b w at. subst (λ es. IsTrue b ↔ Passes P proc (callee_entry at c.in-CalleeEntry.callee es) x)
    c.as_slice.ensures.value (w at)) c.is_entered.ensures

pub returns-in-LoopEntry : goal.returns-in-LoopEntry
returns-in-LoopEntry c =
    decided_check c.is_loop_entered.result c.args.setting c.args.kind.now _ _ c.args.state.now c.in-LoopEntry.is
    (λ b w. w) c.is_loop_entered.ensures

pub returns-in-LoopEnd : goal.returns-in-LoopEnd
returns-in-LoopEnd c =
    decided_check c.is_loop_ended.result c.args.setting c.args.kind.now _ _ c.args.state.now c.in-LoopEnd.is (λ b w. w)
    c.is_loop_ended.ensures

pub returns-in-Return : goal.returns-in-Return
returns-in-Return c =
    decided_check c.is_returned.result c.args.setting c.args.kind.now _ _ c.args.state.now c.in-Return.is (λ b w at. w)
    c.is_returned.ensures
