use Rattle.gh_ast.specs.Plain.{procedure_of}
use Rattle.gh_ast.specs.Programs.{variable_names}
use Rattle.gh_model.proofs.building.States.{IsWalk}
use Rattle.gh_model.proofs.build.states.Given as goal

abbrev pub invariant-loop-number : goal.invariant-loop-number
invariant-loop-number l =
    IsWalk l.structure (variable_names (procedure_of l.procedure)) l.symbolic.steps.items l.binding-items l.states.items
    l.number l.version
