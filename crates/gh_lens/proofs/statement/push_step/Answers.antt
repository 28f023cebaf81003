use Rattle.std.proofs.Common.{◌++◌, ◌∙◌, sym, ap}
use Rattle.std.specs.Prelude.{slice_get}
use Rattle.std.proofs.lemmas.Result.{on_ok_weaker}
use Rattle.gh_ast.specs.Plain.{program_of}
use Rattle.gh_ast.specs.Programs.{names}
use Rattle.gh_path.specs.Kept.{step_of}
use Rattle.gh_lens.specs.Statements.{called_text, step_text}
use Rattle.gh_lens.proofs.statement.push_step.Goals as goal

pub returns-in-Call : goal.returns-in-Call
returns-in-Call c =
    let old = c.args.text.now in
    let P = program_of c.args.program.now in
    let q = slice_get P.procedures c.in-Call.callee in
    on_ok_weaker c.push_call.result
    (λ added. added ∙ ap (λ xs. old ++ called_text q (names xs) c.as_slice-in-Call.result.now) c.as_slice.ensures.value
    ∙ ap (λ es. old ++ called_text q (names c.in-Call.targets.items) es) c.as_slice-in-Call.ensures.value
    ∙ ap (λ r. old ++ step_text P (step_of r)) (sym c.in-Call.is)) c.push_call.ensures
