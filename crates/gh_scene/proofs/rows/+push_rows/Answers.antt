use Rattle.std.proofs.Common.{◌≡◌, ◌∷◌, ap, length, map, arith}
use Rattle.std.proofs.lemmas.Result.{IfOk-weaker}
use Rattle.std.proofs.lemmas.List.{nil_from_length}
use Rattle.gh_ast.specs.Plain.{procedure_of, program_of}
use Rattle.gh_path.specs.Kept.{step_of}
use Rattle.gh_lens.proofs.Telling.{first_and_later}
use Rattle.gh_scene.proofs.Rowing.{no_step, no_state, one_state, row_first}
use Rattle.gh_scene.proofs.rows.+push_rows.Goals as goal

pub step_row-requires-clause-there : goal.step_row-requires-clause-there
step_row-requires-clause-there t c =
    (first_and_later (program_of c.args.setting.typed.now) (procedure_of c.args.setting.procedure.now)
    c.in-Some.step.now c.in-Some.later.now c.args.steps.now c.in-Some.ensures.cases.0 c.requires.there).0

pub push_rows-requires : goal.push_rows-requires
push_rows-requires t c =
    let longer : length c.args.steps.now ≡ length (c.in-Some.step.now ∷ c.in-Some.later.now) =
    ap length c.in-Some.ensures.cases.0 in (
      omega (arith, longer),
      (
        c.requires.loops,
        (first_and_later (program_of c.args.setting.typed.now) (procedure_of c.args.setting.procedure.now)
            c.in-Some.step.now c.in-Some.later.now c.args.steps.now c.in-Some.ensures.cases.0 c.requires.there).1,
      ),
    )

pub returns-in_default : goal.returns-in_default
returns-in_default t c =
    no_step (program_of c.args.setting.typed.now) (procedure_of c.args.setting.procedure.now) c.args.steps.now
    c.args.states.now c.args.spare.now c.args.rows.now.items
    (nil_from_length c.args.steps.now c.in_default.ensures.cases)

pub returns-in_default-split_first : goal.returns-in_default-split_first
returns-in_default-split_first t c =
    no_state (program_of c.args.setting.typed.now) (procedure_of c.args.setting.procedure.now)
    (map step_of c.args.steps.now) c.args.states.now c.args.spare.now c.args.rows.now.items
    (nil_from_length c.args.states.now c.in_default-split_first.ensures.cases)

pub returns-in_default-split_first-2 : goal.returns-in_default-split_first-2
returns-in_default-split_first-2 t c =
    one_state (program_of c.args.setting.typed.now) (procedure_of c.args.setting.procedure.now)
    (map step_of c.args.steps.now) c.args.states.now c.in-Some-split_first.others.now
    c.in-Some-split_first.before.now c.args.spare.now c.args.rows.now.items c.in-Some-split_first.ensures.cases.0
    (nil_from_length c.in-Some-split_first.others.now c.in_default-split_first-2.ensures.cases)

pub returns : goal.returns
returns t c =
    let P = program_of c.args.setting.typed.now in
    let proc = procedure_of c.args.setting.procedure.now in
    IfOk-weaker c.push_rows.result _ _
    (λ r later. row_first P proc c.in-Some.step.now c.in-Some.later.now c.args.steps.now
    c.in-Some-split_first.before.now c.in-Some-split_first-2.after.now c.in-Some-split_first-2.rest.now
    c.in-Some-split_first.others.now c.args.states.now
    c.args.spare.now c.in_ok-left.left c.args.rows.now.items c.push.new.self.items c.push_rows.new.rows.items
    c.in_ok-row.row
    c.in-Some.ensures.cases.0 c.in-Some-split_first.ensures.cases.0 c.in-Some-split_first-2.ensures.cases.0
    c.in_ok-left.ensures c.in_ok-push.ensures.items c.in_ok-row.ensures later)
    c.push_rows.ensures
