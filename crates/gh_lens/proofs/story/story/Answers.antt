use Rattle.std.proofs.Common.{◌≡◌, ◌++◌, ◌∙◌, All, None, Some, map, sym, ap, subst}
use Rattle.std.specs.Prelude.{codes}
use Rattle.gh_ast.specs.Plain.{procedure_of, program_of}
use Rattle.gh_draw.specs.Drawings.{line}
use Rattle.gh_path.specs.Conditions.{StepIsThere}
use Rattle.gh_path.specs.Kept.{step_of}
use Rattle.gh_trace.specs.Kept.{state_of}
use Rattle.gh_lens.specs.Misses.{IsFailingOr}
use Rattle.gh_lens.specs.Stories.{TellsSteps}
use Rattle.gh_lens.proofs.Telling.{no_story, story_told, steps_there}
use Rattle.gh_lens.proofs.story.story.Goals as goal

pub steps_told-requires-clause-there : goal.steps_told-requires-clause-there
steps_told-requires-clause-there c =
    let P = program_of c.args.setting.typed.now in
    let proc = procedure_of c.args.setting.procedure.now in
    subst (λ rs. All (StepIsThere P proc) (map step_of rs)) (sym c.as_slice.ensures.value)
    (steps_there P proc c.args.condition.now c.requires.scoped c.requires.own)

pub returns-in_default : goal.returns-in_default
returns-in_default c =
    let P = program_of c.args.setting.typed.now in
    let proc = procedure_of c.args.setting.procedure.now in
    let r = c.args.condition.now in
    let z = c.last.result.now in
    let none : IsFailingOr P proc r.check.kind (state_of z) None =
    subst (IsFailingOr P proc r.check.kind (state_of z)) c.in_default.is c.in_ok-missed.ensures in
    no_story P r proc c.args.first.now z c.args.others.now c.requires.own c.last.ensures none

pub returns : goal.returns
returns c =
    let P = program_of c.args.setting.typed.now in
    let proc = procedure_of c.args.setting.procedure.now in
    let r = c.args.condition.now in
    let z = c.last.result.now in
    let missed = c.in-Some.missed in
    let lines = c.in_ok-text.text in
    let steps = c.in_ok-steps.steps in
    let fails : IsFailingOr P proc r.check.kind (state_of z) (Some missed) =
    subst (IsFailingOr P proc r.check.kind (state_of z)) c.in-Some.is c.in_ok-missed.ensures in
    let tells : TellsSteps P proc r.steps.items c.args.first.now c.args.others.now steps =
    subst (λ rs. TellsSteps P proc rs c.args.first.now c.args.others.now steps) c.as_slice.ensures.value
    c.in_ok-steps.ensures in
    let first : c.push.new.self ≡ lines ++ steps = c.in_ok-push.ensures.ok ∙ ap (λ b. lines ++ b) c.bytes.ensures in
    let second : c.push-2.new.self ≡ lines ++ steps ++ line (codes "the check fails:") =
    c.in_ok-push-2.ensures.ok ∙ ap (λ t. t ++ line (codes "the check fails:")) first in
    let third : c.push-3.new.self ≡ lines ++ steps ++ line (codes "the check fails:") ++ missed =
    c.in_ok-push-3.ensures.ok ∙ ap (λ b. c.push-2.new.self ++ b) c.bytes-2.ensures ∙ ap (λ t. t ++ missed) second in
    story_told P r proc c.args.first.now z c.args.others.now missed lines steps c.push-3.new.self c.requires.own
    c.last.ensures fails c.in_ok-text.ensures tells third
