use Rattle.std.proofs.Common.{◌≡◌, Some, arith}
use Rattle.std.specs.Prelude.{slice_get}
use Rattle.gh_ast.specs.Plain.{program_of, procedure_of}
use Rattle.gh_symb.proofs.StepLemmas.{callee_within, called_procedure}
use Rattle.gh_symb.proofs.walker.Walker.ask_called.Goals as goal

pub index-callee-requires : goal.index-callee-requires
index-callee-requires c =
    let within = callee_within c.args.context.program.now c.args.callee c.requires in
    omega (arith, within, c.args.context.program.now.procedures.ok)

pub returns-clause-ended : goal.returns-clause-ended
returns-clause-ended c =
    let P = c.args.context.program.now in
    let q = c.index-callee.result.now in
    let callee : slice_get (program_of P).procedures c.args.callee ≡ Some (procedure_of q) =
    called_procedure P c.args.callee q (callee_within P c.args.callee c.requires) c.index-callee.ensures in
    rw callee c.in_ok-asked.ensures.ended

pub returns-clause-read : goal.returns-clause-read
returns-clause-read c =
    let P = c.args.context.program.now in
    let q = c.index-callee.result.now in
    let callee : slice_get (program_of P).procedures c.args.callee ≡ Some (procedure_of q) =
    called_procedure P c.args.callee q (callee_within P c.args.callee c.requires) c.index-callee.ensures in
    rw callee c.in_ok-asked.ensures.read
