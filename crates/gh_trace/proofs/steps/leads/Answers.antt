use Rattle.std.proofs.Common.{subst}
use Rattle.std.specs.Prelude.{◌↔◌, IsTrue}
use Rattle.gh_ast.specs.Plain.{procedure_of, program_of}
use Rattle.gh_path.specs.Graphs.{call_step, return_step}
use Rattle.gh_trace.specs.Kept.{state_of}
use Rattle.gh_trace.specs.Traces.{StepLeads}
use Rattle.gh_trace.proofs.KeptSteps.{decided_taken, decided_kept}
use Rattle.gh_trace.proofs.steps.leads.Goals as goal

pub returns-in-Access : goal.returns-in-Access
returns-in-Access c =
    decided_taken c.accesses.result c.args.setting c.args.step.now _ c.args.before.now c.args.after.now c.in-Access.is
    c.accesses.ensures

pub returns-in-Assume : goal.returns-in-Assume
returns-in-Assume c =
    decided_taken c.assumes.result c.args.setting c.args.step.now _ c.args.before.now c.args.after.now c.in-Assume.is
    c.assumes.ensures

pub returns-in-Set : goal.returns-in-Set
returns-in-Set c =
    decided_taken c.assigns.result c.args.setting c.args.step.now _ c.args.before.now c.args.after.now c.in-Set.is
    c.assigns.ensures

pub returns-in-Write : goal.returns-in-Write
returns-in-Write c =
    decided_taken c.writes.result c.args.setting c.args.step.now _ c.args.before.now c.args.after.now c.in-Write.is
    c.writes.ensures

pub returns-in-New : goal.returns-in-New
returns-in-New c =
    decided_taken c.makes.result c.args.setting c.args.step.now _ c.args.before.now c.args.after.now c.in-New.is
    c.makes.ensures

pub returns-in-Free : goal.returns-in-Free
returns-in-Free c =
    decided_taken c.frees.result c.args.setting c.args.step.now _ c.args.before.now c.args.after.now c.in-Free.is
    c.frees.ensures

pub returns-in-Call : goal.returns-in-Call
returns-in-Call c =
    let P = program_of c.args.setting.typed.now in
    let proc = procedure_of c.args.setting.procedure.now in
    let x = state_of c.args.before.now in
    let y = state_of c.args.after.now in
    decided_kept c.calls.result c.args.setting c.args.step.now _ _ c.args.before.now c.args.after.now c.in-Call.is
    (λ b w.
    subst (λ es. IsTrue b ↔ StepLeads P proc (call_step c.in-Call.targets.items c.in-Call.callee es) x y)
    c.as_slice-in-Call.ensures.value
    (subst (λ xs. IsTrue b ↔ StepLeads P proc (call_step xs c.in-Call.callee c.as_slice-in-Call.result.now) x y)
    c.as_slice.ensures.value w)) c.calls.ensures

pub returns-in-Loop : goal.returns-in-Loop
returns-in-Loop c =
    decided_kept c.goes_around.result c.args.setting c.args.step.now _ _ c.args.before.now c.args.after.now c.in-Loop.is
    (λ b w. w) c.goes_around.ensures

pub returns-in-Return : goal.returns-in-Return
returns-in-Return c =
    let P = program_of c.args.setting.typed.now in
    let proc = procedure_of c.args.setting.procedure.now in
    let x = state_of c.args.before.now in
    let y = state_of c.args.after.now in
    decided_kept c.answers.result c.args.setting c.args.step.now _ _ c.args.before.now c.args.after.now c.in-Return.is
    (λ b w. subst (λ es. IsTrue b ↔ StepLeads P proc (return_step es) x y) c.as_slice-in-Return.ensures.value w)
    c.answers.ensures
