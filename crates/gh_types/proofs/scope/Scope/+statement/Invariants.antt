use Rattle.std.proofs.Common.{take, map}
use Rattle.std.specs.List.{flat_map}
use Rattle.gh_ast.specs.Plain.{procedure_of, statement_of}
use Rattle.gh_ast.specs.Occurrences.{sites_in}
use Rattle.gh_types.specs.Checks.{SiteErrors}
use Rattle.gh_types.specs.Faults.{IsFirstIn}
use Rattle.gh_types.proofs.scope.Scope.+statement.Given as goal

abbrev pub invariant-in_statements-loop-statement : goal.invariant-in_statements-loop-statement
invariant-in_statements-loop-statement l =
    IsFirstIn (SiteErrors (map procedure_of l.self.procedures.now) (procedure_of l.self.own.now))
    (flat_map (λ s. sites_in l.in_loop (statement_of s)) (take l.statement-index l.statements)) l.first
