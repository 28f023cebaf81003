use Rattle.std.proofs.Common.{ap, arith}
use Rattle.gh_ast.specs.Plain.{procedure_of, program_of}
use Rattle.gh_symb.proofs.CountLemmas.{scoped_within, scoped_of, scoped_there}
use Rattle.gh_symb.proofs.context.context_of.Goals as goal

pub index-procedure-requires : goal.index-procedure-requires
index-procedure-requires c =
    let Q = c.program-program.result.now in
    let within = scoped_within c.args.typed.now Q c.args.condition.now c.program-program.ensures.same c.requires in
    omega (arith, within, Q.procedures.ok)

pub returns : goal.returns
returns c =
    let T = c.args.typed.now in
    let r = c.args.condition.now in
    let same = c.program-program.ensures.same in
    let q = c.index-procedure.result.now in
    let of = scoped_of T c.program-program.result.now r q same c.requires c.index-procedure.ensures in
    record {
      program = ap program_of same;
      of = of;
      there = scoped_there (program_of T) r (procedure_of q) c.requires of;
    }
