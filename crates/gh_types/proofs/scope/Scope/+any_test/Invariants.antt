use Rattle.std.proofs.Common.{take}
use Rattle.std.specs.List.{flat_map}
use Rattle.gh_ast.specs.Plain.{procedure_of, cond_of}
use Rattle.gh_ast.specs.Occurrences.{in_cond}
use Rattle.gh_types.specs.Checks.{OccurrenceErrors}
use Rattle.gh_types.specs.Faults.{IsFirstIn}
use Rattle.gh_types.proofs.scope.Scope.+any_test.Given as goal

abbrev pub invariant-in_conds-loop-test : goal.invariant-in_conds-loop-test
invariant-in_conds-loop-test l =
    IsFirstIn (OccurrenceErrors (procedure_of l.self.own.now) l.setting)
    (flat_map (λ t. in_cond (cond_of t)) (take l.test-index l.tests)) l.first
