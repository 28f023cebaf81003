use Rattle.std.proofs.Common.{◌≡◌, Some, arith}
use Rattle.std.specs.Prelude.{slice_get}
use Rattle.gh_ast.specs.Plain.{program_of, procedure_of}
use Rattle.gh_symb.proofs.StepLemmas.{callee_within, called_procedure}
use Rattle.gh_symb.proofs.walker.Walker.encode_called.Goals as goal

pub index-callee-requires : goal.index-callee-requires
index-callee-requires c =
    let within = callee_within c.args.context.program.now c.args.callee c.requires.callee in
    omega (arith, within, c.args.context.program.now.procedures.ok)

pub returns-clause-done : goal.returns-clause-done
returns-clause-done c =
    let P = c.args.context.program.now in
    let q = c.index-callee.result.now in
    let callee : slice_get (program_of P).procedures c.args.callee ≡ Some (procedure_of q) =
    called_procedure P c.args.callee q (callee_within P c.args.callee c.requires.callee) c.index-callee.ensures in
    rw callee c.in_ok-step.ensures.done

pub returns-clause-read : goal.returns-clause-read
returns-clause-read c =
    let P = c.args.context.program.now in
    let q = c.index-callee.result.now in
    let callee : slice_get (program_of P).procedures c.args.callee ≡ Some (procedure_of q) =
    called_procedure P c.args.callee q (callee_within P c.args.callee c.requires.callee) c.index-callee.ensures in
    rw callee c.in_ok-step.ensures.read
