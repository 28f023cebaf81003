use Rattle.gh_ast.specs.Plain.{program_of, procedure_of}
use Rattle.gh_ast.proofs.Declared.{is_member}
use Rattle.gh_machine.proofs.Begun.{starts_fit}
use Rattle.gh_machine.proofs.config.Config.starts_wanted.Goals as goal

pub overflow_cast-result : goal.overflow_cast-result
overflow_cast-result c =
    let P = program_of c.program.result.now in
    let q = procedure_of c.in-Some.procedure.now in
    starts_fit P q c.count_starts.result c.program.ensures.limits (is_member P.procedures _ q c.in-Some.ensures)
    c.count_starts.ensures
