use Rattle.std.proofs.Common.{take}
use Rattle.std.specs.List.{flat_map}
use Rattle.gh_ast.specs.Plain.{procedure_of, assertion_of}
use Rattle.gh_ast.specs.Occurrences.{in_assertion}
use Rattle.gh_types.specs.Checks.{OccurrenceErrors}
use Rattle.gh_types.specs.Faults.{IsFirstIn}
use Rattle.gh_types.proofs.scope.Scope.+assertion.Given as goal

abbrev pub invariant-in_assertions-loop-assertion : goal.invariant-in_assertions-loop-assertion
invariant-in_assertions-loop-assertion l =
    IsFirstIn (OccurrenceErrors (procedure_of l.self.own.now) l.setting)
    (flat_map (λ f. in_assertion (assertion_of f)) (take l.assertion-index l.assertions)) l.first
