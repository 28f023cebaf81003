use Rattle.std.proofs.Common.{◌≡◌, ◌∙◌, ◌∷◌, sym, subst, map, Some, None}
use Rattle.std.proofs.lemmas.List.{nil_from_length}
use Rattle.gh_ast.specs.Plain.{program_of}
use Rattle.gh_path.specs.Answers.{IsNumbered}
use Rattle.gh_path.proofs.Numbers.{one_is_scoped}
use Rattle.gh_scene.proofs.Sketching.{sketched, sketch_fails, no_states}
use Rattle.gh_trace.proofs.FirstRefuted.{numbered_one}
use Rattle.gh_trace.proofs.StepCounts.{few_steps}
use Rattle.gh_scene.proofs.sketch.scene_of.Goals as goal
use Rattle.gh_scene.specs.Sketches.{IsSketch}
use Rattle.gh_scene.specs.declared.sketch.Sketch.TheVariants.{Fails}
use Rattle.gh_trace.specs.Kept.{drawn, IsFailure}
use Rattle.gh_trace.specs.declared.replay.ReplayError.TheVariants.{Step}

pub returns-in_default : goal.returns-in_default
returns-in_default c =
    subst (λ Q. IsNumbered Q c.args.drawing.now.condition None) c.requires.same
    (rw c.in_default.is at c.in_ok-condition.ensures)

pub returns-in_default-split_first : goal.returns-in_default-split_first
returns-in_default-split_first c =
    let P = program_of c.args.typed.now in
    let n = c.args.drawing.now.condition in
    let found : IsNumbered P n (Some c.in-Some.condition) =
    subst (λ Q. IsNumbered Q n (Some c.in-Some.condition)) c.requires.same
    (rw c.in-Some.is at c.in_ok-condition.ensures) in
    let fits =
    one_is_scoped P c.in-Some.condition c.requires.admitted.typed (numbered_one P n c.in-Some.condition found) in
    no_states P n c.in-Some.condition fits.0 c.args.drawing.now.trace.states.items found fits.1
    (sym c.as_slice-states.ensures.value
    ∙ nil_from_length c.as_slice-states.result.now c.in_default-split_first.ensures.cases)

pub replay-requires-clause-one : goal.replay-requires-clause-one
replay-requires-clause-one c =
    let P = program_of c.args.typed.now in
    let n = c.args.drawing.now.condition in
    let found : IsNumbered P n (Some c.in-Some.condition) =
    subst (λ Q. IsNumbered Q n (Some c.in-Some.condition)) c.requires.same
    (rw c.in-Some.is at c.in_ok-condition.ensures) in
    numbered_one P n c.in-Some.condition found

pub replay-requires-clause-few : goal.replay-requires-clause-few
replay-requires-clause-few c =
    let P = program_of c.args.typed.now in
    let n = c.args.drawing.now.condition in
    let found : IsNumbered P n (Some c.in-Some.condition) =
    subst (λ Q. IsNumbered Q n (Some c.in-Some.condition)) c.requires.same
    (rw c.in-Some.is at c.in_ok-condition.ensures) in
    few_steps P n c.in-Some.condition c.requires.admitted found

pub shown-requires-clause-scoped : goal.shown-requires-clause-scoped
shown-requires-clause-scoped c =
    let P = program_of c.args.typed.now in
    let n = c.args.drawing.now.condition in
    let found : IsNumbered P n (Some c.in-Some.condition) =
    subst (λ Q. IsNumbered Q n (Some c.in-Some.condition)) c.requires.same
    (rw c.in-Some.is at c.in_ok-condition.ensures) in
    one_is_scoped P c.in-Some.condition c.requires.admitted.typed (numbered_one P n c.in-Some.condition found)

pub returns-in-Ok : goal.returns-in-Ok
returns-in-Ok c =
    let P = program_of c.args.typed.now in
    let n = c.args.drawing.now.condition in
    let xs = c.args.drawing.now.trace.states.items in
    let found : IsNumbered P n (Some c.in-Some.condition) =
    subst (λ Q. IsNumbered Q n (Some c.in-Some.condition)) c.requires.same
    (rw c.in-Some.is at c.in_ok-condition.ensures) in
    let whole : xs ≡ c.in-Some-split_first.first.now ∷ c.in-Some-split_first.others.now =
    sym c.as_slice-states.ensures.value ∙ c.in-Some-split_first.ensures.cases.0 in
    sketched P n c.in-Some.condition c.in-Some-split_first.first.now c.in-Some-split_first.others.now xs
    c.in_ok-scene-in-Ok.scene found whole c.in-Ok.ensures.refuted c.in_ok-scene-in-Ok.ensures

pub returns-in-Err-Step : goal.returns-in-Err-Step
returns-in-Err-Step c =
    let P = program_of c.args.typed.now in
    let n = c.args.drawing.now.condition in
    let xs = c.args.drawing.now.trace.states.items in
    let found : IsNumbered P n (Some c.in-Some.condition) =
    subst (λ Q. IsNumbered Q n (Some c.in-Some.condition)) c.requires.same
    (rw c.in-Some.is at c.in_ok-condition.ensures) in
    let failure : IsFailure P c.in-Some.condition (map drawn xs) (Step c.in-Err-Step.number) =
    rw c.in-Err-Step.field-0-is at c.in-Err-Step.ensures.failed in
    subst (λ k. IsSketch P n xs (Fails k)) (sym c.in-Err-Step.number-is)
    (sketch_fails P n c.in-Err-Step.number c.in-Some.condition xs found failure)
