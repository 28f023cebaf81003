use Rattle.std.proofs.Common.{take}
use Rattle.std.specs.List.{flat_map}
use Rattle.gh_ast.specs.Plain.{statement_of}
use Rattle.gh_ast.specs.Printed.{Adds, statement_shown}
use Rattle.gh_ast.proofs.print.+statement.Given as goal

abbrev pub invariant-put_statements-loop-statement : goal.invariant-put_statements-loop-statement
invariant-put_statements-loop-statement l =
    Adds l.initial.out l.out (flat_map (λ s. statement_shown (statement_of s)) (take l.statement-index l.statements))
