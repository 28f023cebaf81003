use Rattle.std.proofs.Common.{drop, map}
use Rattle.gh_ast.specs.Plain.{procedure_of}
use Rattle.gh_machine.proofs.Stepping.{SameFirst}
use Rattle.gh_machine.proofs.step.find.Given as goal

abbrev pub invariant-loop-procedure : goal.invariant-loop-procedure
invariant-loop-procedure l =
    SameFirst (map procedure_of l.program.procedures.items)
    (map procedure_of (drop l.procedure-index l.procedure-items)) l.name
