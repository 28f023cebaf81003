use Rattle.std.proofs.Common.{◌≡◌, ◌++◌, ◌∙◌, ap}
use Rattle.gh_ast.specs.Plain.{procedure_of, program_of}
use Rattle.gh_lens.specs.Statements.{line_text, step_text, step_place}
use Rattle.gh_path.specs.Graphs.{loops_of}
use Rattle.gh_path.specs.Kept.{step_of}
use Rattle.gh_scene.proofs.rows.statement.Goals as goal

pub returns : goal.returns
returns c =
    let P = program_of c.args.setting.typed.now in
    let ls = loops_of (procedure_of c.args.setting.procedure.now) in
    let s = step_of c.args.step.now in
    let place : c.step_place.result ≡ step_place ls s = c.step_place.ensures ∙ ap (λ ms. step_place ms s) c.requires in
    let step : c.push_step.new.text ≡ c.push_line.new.text ++ step_text P s =
    c.in_ok-push_step.ensures
    ∙ ap (λ q. c.push_line.new.text ++ step_text (program_of q) s) c.program.ensures.same in
    step ∙ ap (λ t. t ++ step_text P s)
    (c.in_ok-push_line.ensures ∙ ap (λ o. c.new-text.result ++ line_text o) place
    ∙ ap (λ t. t ++ line_text (step_place ls s)) c.new-text.ensures)
