use Rattle.std.proofs.Common.{take}
use Rattle.std.specs.List.{flat_map}
use Rattle.gh_ast.specs.Plain.{procedure_of}
use Rattle.gh_ast.specs.Occurrences.{in_expr}
use Rattle.gh_types.specs.Checks.{OccurrenceErrors}
use Rattle.gh_types.specs.Faults.{IsFirstIn}
use Rattle.gh_types.proofs.scope.Scope.in_exprs.Given as goal

abbrev pub invariant-loop-expr : goal.invariant-loop-expr
invariant-loop-expr l =
    IsFirstIn (OccurrenceErrors (procedure_of l.self.own.now) l.setting) (flat_map in_expr (take l.expr-index l.exprs))
    l.first
