use Rattle.std.proofs.Common.{ap, sym, subst, arith}
use Rattle.std.specs.Prelude.{◌↔◌, IsTrue}
use Rattle.std.specs.FinMap.{len}
use Rattle.gh_ast.specs.Plain.{program_of}
use Rattle.gh_assert.specs.Meaning.{HasPart, MeetsOneOf}
use Rattle.gh_assert.specs.Stores.{store_of}
use Rattle.gh_machine.specs.Configs.{config_of}
use Rattle.gh_machine.specs.Machine.{Config}
use Rattle.gh_trace.specs.Traces.{Replaced}
use Rattle.gh_run.specs.Halts.{IsHalted}
use Rattle.gh_run.specs.Reports.{begun}
use Rattle.gh_run.proofs.Procedures.{read_at}
use Rattle.gh_run.proofs.Reporting.{stopped, faulted, ended}
use Rattle.gh_run.proofs.simulate.simulate.Goals as goal

pub run_ruled-requires-clause-room : goal.run_ruled-requires-clause-room
run_ruled-requires-clause-room c =
    let heap = ap (λ (x : Config). len x.heap) (c.in_ok-config.ensures.begun c.requires.fits.0 c.requires.fits.1) in
    omega (arith, heap, c.requires.room)

pub returns-then-not-branch : goal.returns-then-not-branch
returns-then-not-branch c =
    let b = c.args.begin.now in
    let p = c.requires.fits.0 in
    let same =
    read_at c.args.typed.now c.program.result.now b.procedure c.from.result c.index-procedure.result.now p
    c.program.ensures.same c.from.ensures c.index-procedure.ensures c.requires.fits.1.numbered in (
      p,
      c.requires.fits.1,
      λ well.
          let has : IsTrue c.in_ok-has_part.field-0 =
          c.in_ok-has_part.ensures.1 (subst (λ q. HasPart q.needs (store_of b.store) b.heap) (sym same) well) in
          let none = c.if-not-branch.true in
          absurd cc,
    )

pub returns-in-Stopped : goal.returns-in-Stopped
returns-in-Stopped c =
    let b = c.args.begin.now in
    let proc = c.requires.fits.0 in
    let P = program_of c.args.typed.now in
    let d = config_of c.run_ruled.new.config in
    let k = c.in_ok-steps.steps in
    let same =
    read_at c.args.typed.now c.program.result.now b.procedure c.from.result c.index-procedure.result.now proc
    c.program.ensures.same c.from.ensures c.index-procedure.ensures c.requires.fits.1.numbered in
    let well : HasPart proc.needs (store_of b.store) b.heap =
    subst (λ q. HasPart q.needs (store_of b.store) b.heap) same
    (c.in_ok-has_part.ensures.0 c.if-not-branch.false) in
    let begins =
    subst (λ x. IsHalted P x c.args.limit c.in_ok-steps.halt k d)
    (c.in_ok-config.ensures.begun proc c.requires.fits.1) c.in_ok-steps.ensures.halted in
    let halted = subst (λ h. IsHalted P (begun proc b) c.args.limit h k d) c.in-Stopped.is begins in (
      proc,
      c.requires.fits.1,
      stopped P proc (begun proc b) c.args.limit k d c.in_ok-state.state well halted c.in_ok-state.ensures.state,
    )

pub returns-in-Faulted : goal.returns-in-Faulted
returns-in-Faulted c =
    let b = c.args.begin.now in
    let proc = c.requires.fits.0 in
    let P = program_of c.args.typed.now in
    let d = config_of c.run_ruled.new.config in
    let k = c.in_ok-steps.steps in
    let same =
    read_at c.args.typed.now c.program.result.now b.procedure c.from.result c.index-procedure.result.now proc
    c.program.ensures.same c.from.ensures c.index-procedure.ensures c.requires.fits.1.numbered in
    let well : HasPart proc.needs (store_of b.store) b.heap =
    subst (λ q. HasPart q.needs (store_of b.store) b.heap) same
    (c.in_ok-has_part.ensures.0 c.if-not-branch.false) in
    let begins =
    subst (λ x. IsHalted P x c.args.limit c.in_ok-steps.halt k d)
    (c.in_ok-config.ensures.begun proc c.requires.fits.1) c.in_ok-steps.ensures.halted in
    let halted = subst (λ h. IsHalted P (begun proc b) c.args.limit h k d) c.in-Faulted.is begins in (
      proc,
      c.requires.fits.1,
      faulted P proc (begun proc b) c.args.limit k d c.in_ok-state.state well halted c.in_ok-state.ensures.state,
    )

pub returns : goal.returns
returns c =
    let b = c.args.begin.now in
    let proc = c.requires.fits.0 in
    let P = program_of c.args.typed.now in
    let d = config_of c.run_ruled.new.config in
    let k = c.in_ok-steps.steps in
    let same =
    read_at c.args.typed.now c.program.result.now b.procedure c.from.result c.index-procedure.result.now proc
    c.program.ensures.same c.from.ensures c.index-procedure.ensures c.requires.fits.1.numbered in
    let well : HasPart proc.needs (store_of b.store) b.heap =
    subst (λ q. HasPart q.needs (store_of b.store) b.heap) same
    (c.in_ok-has_part.ensures.0 c.if-not-branch.false) in
    let begins =
    subst (λ x. IsHalted P x c.args.limit c.in_ok-steps.halt k d)
    (c.in_ok-config.ensures.begun proc c.requires.fits.1) c.in_ok-steps.ensures.halted in
    let halted = subst (λ h. IsHalted P (begun proc b) c.args.limit h k d) c.in-Ended.is begins in
    let met = c.in_ok-met-in-Ended.met in
    let s = c.in_ok-state.state in
    let tells = subst (λ q. IsTrue met
    ↔ Replaced q.needs (store_of b.store) b.heap (MeetsOneOf q.gives (store_of s.store)) s.heap) same
    c.in_ok-met-in-Ended.ensures in (
      proc,
      c.requires.fits.1,
      ended P proc (begun proc b) c.args.limit k d s met well halted c.in_ok-state.ensures.state tells,
    )
