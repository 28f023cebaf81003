use Rattle.gh_ast.specs.Plain.{program_of}
use Rattle.gh_types.proofs.BrokenLemmas.{first_of_some, none_broken}
use Rattle.gh_types.proofs.check.check.Goals as goal

pub returns-in-Some-clause-err : goal.returns-in-Some-clause-err
returns-in-Some-clause-err c =
    first_of_some (program_of c.args.program) c.in_ok-fault.field-0 c.in-Some.fault c.in-Some.is c.in_ok-fault.ensures

pub returns-in-Some-passed_limit-clause-err : goal.returns-in-Some-passed_limit-clause-err
returns-in-Some-passed_limit-clause-err c = (
  none_broken (program_of c.args.program) c.in_ok-fault.field-0 c.in_default.is c.in_ok-fault.ensures,
  c.in-Some-passed_limit.ensures,
)

pub new-requires-clause-typed : goal.new-requires-clause-typed
new-requires-clause-typed c =
    none_broken (program_of c.args.program) c.in_ok-fault.field-0 c.in_default.is c.in_ok-fault.ensures

pub returns-clause-rules : goal.returns-clause-rules
returns-clause-rules c =
    none_broken (program_of c.args.program) c.in_ok-fault.field-0 c.in_default.is c.in_ok-fault.ensures
