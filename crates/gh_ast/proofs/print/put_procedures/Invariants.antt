use Rattle.std.proofs.Common.{take}
use Rattle.std.specs.List.{flat_map}
use Rattle.gh_ast.specs.Plain.{procedure_of}
use Rattle.gh_ast.specs.Printed.{Adds, procedure_shown}
use Rattle.gh_ast.proofs.print.put_procedures.Given as goal

abbrev pub invariant-loop-procedure : goal.invariant-loop-procedure
invariant-loop-procedure l =
    Adds l.initial.out l.out (flat_map (λ p. procedure_shown (procedure_of p)) (take l.procedure-index l.procedures))
