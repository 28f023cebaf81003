use Rattle.std.proofs.Common.{◌≡◌, ◌∷◌, ◌++◌, ◌∙◌, ap, length, arith}
use Rattle.std.proofs.lemmas.List.{nil_from_length}
use Rattle.gh_ast.specs.Plain.{procedure_of, program_of}
use Rattle.gh_lens.proofs.Telling.{no_steps, no_states, one_more, first_and_later}
use Rattle.gh_lens.proofs.story.+steps_told.Goals as goal

pub step_told-requires-clause-there : goal.step_told-requires-clause-there
step_told-requires-clause-there t c =
    (first_and_later (program_of c.args.setting.typed.now) (procedure_of c.args.setting.procedure.now)
    c.in-Some.step.now c.in-Some.later.now c.args.steps.now c.in-Some.ensures.cases.0 c.requires.there).0

pub steps_told-requires : goal.steps_told-requires
steps_told-requires t c =
    let longer : length c.args.steps.now ≡ length (c.in-Some.step.now ∷ c.in-Some.later.now) =
    ap length c.in-Some.ensures.cases.0 in (
      omega (arith, longer),
      (
        c.requires.loops,
        (first_and_later (program_of c.args.setting.typed.now) (procedure_of c.args.setting.procedure.now)
            c.in-Some.step.now c.in-Some.later.now c.args.steps.now c.in-Some.ensures.cases.0 c.requires.there).1,
      ),
    )

pub returns-in_default : goal.returns-in_default
returns-in_default t c =
    no_steps (program_of c.args.setting.typed.now) (procedure_of c.args.setting.procedure.now) c.args.steps.now
    c.args.before.now c.args.others.now c.new.result (nil_from_length c.args.steps.now c.in_default.ensures.cases)
    c.new.ensures

pub returns-in_default-split_first : goal.returns-in_default-split_first
returns-in_default-split_first t c =
    no_states (program_of c.args.setting.typed.now) (procedure_of c.args.setting.procedure.now) c.args.steps.now
    c.args.before.now c.args.others.now c.new-in_default-split_first.result
    (nil_from_length c.args.others.now c.in_default-split_first.ensures.cases) c.new-in_default-split_first.ensures

pub returns : goal.returns
returns t c =
    one_more (program_of c.args.setting.typed.now) (procedure_of c.args.setting.procedure.now) c.args.steps.now
    c.in-Some.later.now c.in-Some.step.now c.args.before.now c.in-Some-split_first.after.now c.args.others.now
    c.in-Some-split_first.rest.now
    c.in_ok-text.text c.in_ok-more.more c.push.new.self c.in-Some.ensures.cases.0 c.in-Some-split_first.ensures.cases.0
    c.in_ok-text.ensures c.in_ok-more.ensures
    (c.in_ok-push.ensures.ok ∙ ap (λ b. c.in_ok-text.text ++ b) c.bytes.ensures)
