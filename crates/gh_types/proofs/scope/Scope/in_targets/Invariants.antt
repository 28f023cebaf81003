use Rattle.std.proofs.Common.{take}
use Rattle.gh_ast.specs.Plain.{procedure_of}
use Rattle.gh_types.specs.Checks.{ParameterErrors}
use Rattle.gh_types.specs.Faults.{IsFirstIn}
use Rattle.gh_types.proofs.scope.Scope.in_targets.Given as goal

abbrev pub invariant-loop-target : goal.invariant-loop-target
invariant-loop-target l =
    IsFirstIn (ParameterErrors (procedure_of l.self.own.now)) (take l.target-index l.targets) l.first
