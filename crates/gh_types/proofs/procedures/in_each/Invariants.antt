use Rattle.std.proofs.Common.{take, map}
use Rattle.gh_ast.specs.Plain.{procedure_of}
use Rattle.gh_types.specs.Checks.{ProcedureErrors}
use Rattle.gh_types.specs.Faults.{IsFirstIn}
use Rattle.gh_types.proofs.procedures.in_each.Given as goal

abbrev pub invariant-loop-own : goal.invariant-loop-own
invariant-loop-own l =
    IsFirstIn (ProcedureErrors (map procedure_of l.procedures)) (map procedure_of (take l.own-index l.procedures))
    l.first
