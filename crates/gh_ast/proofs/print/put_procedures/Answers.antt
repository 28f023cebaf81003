use Rattle.std.proofs.Common.{arith, subst}
use Rattle.gh_ast.specs.Plain.{procedure_of}
use Rattle.gh_ast.specs.Printed.{Adds, procedure_shown}
use Rattle.gh_ast.proofs.Printing.{each_more, each_all, procedures_each}
use Rattle.gh_ast.proofs.print.put_procedures.Goals as goal

pub loop-procedure-preserved : goal.loop-procedure-preserved
loop-procedure-preserved c =
    each_more (λ p. procedure_shown (procedure_of p)) c.args.procedures.now c.loop-procedure.procedure-index
    c.procedure-item.result (omega arith) c.procedure-item.is
    c.loop-procedure.invariant c.in_ok-put_procedure.ensures

pub returns : goal.returns
returns c =
    subst (Adds c.args.out.now c.loop-procedure.out) (procedures_each c.args.procedures.now)
    (each_all (λ p. procedure_shown (procedure_of p)) c.args.procedures.now c.loop-procedure.procedure-index
    (omega arith) c.loop-procedure.invariant)
