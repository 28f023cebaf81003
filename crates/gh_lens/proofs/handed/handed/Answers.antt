use Rattle.std.proofs.Common.{subst}
use Rattle.gh_ast.specs.Plain.{procedure_of, program_of}
use Rattle.gh_path.specs.Conditions.{StepIsThere}
use Rattle.gh_path.specs.Kept.{step_of}
use Rattle.gh_lens.proofs.handed.handed.Goals as goal

pub handed_to_callee-requires : goal.handed_to_callee-requires
handed_to_callee-requires c =
    subst (λ z. StepIsThere (program_of c.args.setting.typed.now) (procedure_of c.args.setting.procedure.now)
    (step_of z)) c.in-Call.is c.requires.there

pub handed_to_loop-requires-clause-there : goal.handed_to_loop-requires-clause-there
handed_to_loop-requires-clause-there c =
    subst (λ z. StepIsThere (program_of c.args.setting.typed.now) (procedure_of c.args.setting.procedure.now)
    (step_of z)) c.in-Loop.is c.requires.there
