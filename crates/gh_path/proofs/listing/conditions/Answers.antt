use Rattle.gh_ast.specs.Plain.{program_of}
use Rattle.gh_path.specs.Admitted.{HasManyPaths, HasManySteps}
use Rattle.gh_path.proofs.PassedLemmas.{none_has}
use Rattle.gh_path.proofs.listing.conditions.Goals as goal

pub new-requires-clause-steps : goal.new-requires-clause-steps
new-requires-clause-steps c =
    let P = program_of c.args.typed.now in
    none_has (HasManySteps P) c.as_slice-procedures.result.now c.program.result.now c.args.typed.now
    c.as_slice-procedures.ensures.value c.program.ensures.same (c.in_default-steps_limit.ensures P)

pub returns-clause-paths : goal.returns-clause-paths
returns-clause-paths c =
    let P = program_of c.args.typed.now in
    none_has (HasManyPaths P) c.as_slice-procedures.result.now c.program.result.now c.args.typed.now
    c.as_slice-procedures.ensures.value c.program.ensures.same (c.in_default.ensures P)

pub returns-clause-steps : goal.returns-clause-steps
returns-clause-steps c =
    let P = program_of c.args.typed.now in
    none_has (HasManySteps P) c.as_slice-procedures.result.now c.program.result.now c.args.typed.now
    c.as_slice-procedures.ensures.value c.program.ensures.same (c.in_default-steps_limit.ensures P)
