use Rattle.std.proofs.Common.{take}
use Rattle.gh_ast.specs.Plain.{procedure_of}
use Rattle.gh_types.specs.Checks.{OccurrenceErrors}
use Rattle.gh_types.specs.declared.scope.Setting.TheVariants.{Inside}
use Rattle.gh_types.specs.Faults.{IsFirstIn}
use Rattle.gh_types.proofs.scope.Scope.in_occurrences.Given as goal

abbrev pub invariant-loop-occurrence : goal.invariant-loop-occurrence
invariant-loop-occurrence l =
    IsFirstIn (OccurrenceErrors (procedure_of l.self.own.now) Inside) (take l.occurrence-index l.occurrences) l.first
