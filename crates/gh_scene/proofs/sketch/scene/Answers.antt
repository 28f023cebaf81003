use Rattle.std.proofs.Common.{sym, subst, refl, All, map}
use Rattle.gh_ast.specs.Plain.{procedure_of, program_of}
use Rattle.gh_path.specs.Conditions.{StepIsThere}
use Rattle.gh_path.specs.Kept.{condition_of, step_of}
use Rattle.gh_lens.proofs.Telling.{steps_there}
use Rattle.gh_scene.specs.Rows.{AddsRows}
use Rattle.gh_scene.specs.Spare.{IsSpare}
use Rattle.gh_scene.proofs.Sketching.{scene_over}
use Rattle.gh_scene.proofs.sketch.scene.Goals as goal
use Rattle.gh_trace.specs.Kept.{state_of}
use Rattle.gh_trace.specs.Traces.{last_state}

pub push_rows-requires-clause-there : goal.push_rows-requires-clause-there
push_rows-requires-clause-there c =
    let P = program_of c.args.setting.typed.now in
    let proc = procedure_of c.args.setting.procedure.now in
    subst (λ rs. All (StepIsThere P proc) (map step_of rs)) (sym c.as_slice-steps.ensures.value)
    (steps_there P proc c.args.condition.now c.requires.scoped c.requires.own)

pub returns : goal.returns
returns c =
    let P = program_of c.args.setting.typed.now in
    let proc = procedure_of c.args.setting.procedure.now in
    let r = c.args.condition.now in
    let x = c.args.first.now in
    let ys = c.args.others.now in
    let rest = c.in_ok-rest.rest in
    let spared : IsSpare proc (condition_of r).way.check (last_state (state_of x) (map state_of ys)) rest =
    subst (λ z. IsSpare proc (condition_of r).way.check z rest) c.last.ensures
    (c.in_ok-rest.ensures r.check.span) in
    let later : AddsRows P proc (map step_of r.steps.items) c.args.states.now rest c.push.new.self.items
    c.push_rows.new.rows.items =
    subst (λ rs. AddsRows P proc (map step_of rs) c.args.states.now rest c.push.new.self.items
    c.push_rows.new.rows.items) c.as_slice-steps.ensures.value c.in_ok-push_rows.ensures in
    scene_over P proc r x ys c.args.states.now _ rest c.in_ok-left.left c.in_ok-title.title c.in_ok-start.start
    c.new-rows.result.items c.push.new.self.items c.push_rows.new.rows.items
    c.requires.own c.requires.parts c.in_ok-title.ensures refl refl spared c.in_ok-left.ensures c.in_ok-start.ensures
    c.new-rows.ensures.items c.in_ok-push.ensures.items later
