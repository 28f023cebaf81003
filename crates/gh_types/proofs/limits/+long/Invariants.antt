use Rattle.std.proofs.Common.{take, map}
use Rattle.std.specs.List.{flat_map}
use Rattle.std.specs.Prelude.{None}
use Rattle.gh_ast.specs.Plain.{statement_of}
use Rattle.gh_ast.specs.Limits.{atoms, invariants_in}
use Rattle.gh_types.specs.LimitChecks.{FindsMany}
use Rattle.gh_types.proofs.limits.+long.Given as goal

abbrev pub invariant-long_in_statements-loop-statement : goal.invariant-long_in_statements-loop-statement
invariant-long_in_statements-loop-statement l =
    FindsMany (flat_map (λ s. map atoms (invariants_in (statement_of s))) (take l.statement-index l.statements)) None
