use Rattle.std.proofs.Common.{Some, sym, subst}
use Rattle.gh_ast.specs.Plain.{program_of}
use Rattle.gh_path.specs.Answers.{IsNumbered}
use Rattle.gh_path.proofs.Numbers.{one_is_scoped}
use Rattle.gh_trace.specs.Kept.{drawn_of, IsFailure}
use Rattle.gh_trace.specs.declared.replay.ReplayError.TheVariants.{Step}
use Rattle.gh_lens.specs.Stories.{IsExplained}
use Rattle.gh_lens.specs.declared.story.Explained.TheVariants.{Fails}
use Rattle.gh_lens.proofs.Telling.{shown, told_by_number, fails_by_number}
use Rattle.gh_trace.proofs.FirstRefuted.{numbered_one}
use Rattle.gh_trace.proofs.StepCounts.{few_steps}
use Rattle.gh_lens.proofs.story.why.Goals as goal

pub replay-requires-clause-one : goal.replay-requires-clause-one
replay-requires-clause-one c =
    let P = program_of c.args.typed.now in
    let n = c.args.drawing.now.condition in
    let r = c.in-Some.condition in
    let found : IsNumbered P n (Some r) =
    subst (λ Q. IsNumbered Q n (Some r)) c.requires.same (rw c.in-Some.is at c.in_ok-condition.ensures) in
    numbered_one P n r found

pub replay-requires-clause-few : goal.replay-requires-clause-few
replay-requires-clause-few c =
    let P = program_of c.args.typed.now in
    let n = c.args.drawing.now.condition in
    let r = c.in-Some.condition in
    let found : IsNumbered P n (Some r) =
    subst (λ Q. IsNumbered Q n (Some r)) c.requires.same (rw c.in-Some.is at c.in_ok-condition.ensures) in
    few_steps P n r c.requires.admitted found

pub told_of-requires-clause-scoped : goal.told_of-requires-clause-scoped
told_of-requires-clause-scoped c =
    let P = program_of c.args.typed.now in
    let n = c.args.drawing.now.condition in
    let r = c.in-Some.condition in
    let found : IsNumbered P n (Some r) =
    subst (λ Q. IsNumbered Q n (Some r)) c.requires.same (rw c.in-Some.is at c.in_ok-condition.ensures) in
    one_is_scoped P r c.requires.admitted.typed (numbered_one P n r found)

pub told_of-requires-clause-shown : goal.told_of-requires-clause-shown
told_of-requires-clause-shown c =
    shown (program_of c.args.typed.now) c.in-Some.condition c.args.drawing.now.trace c.as_slice-states.result.now
    c.in-Ok.ensures.refuted c.as_slice-states.ensures.value

pub returns-in-Ok : goal.returns-in-Ok
returns-in-Ok c =
    let P = program_of c.args.typed.now in
    let n = c.args.drawing.now.condition in
    let r = c.in-Some.condition in
    let found : IsNumbered P n (Some r) =
    subst (λ Q. IsNumbered Q n (Some r)) c.requires.same (rw c.in-Some.is at c.in_ok-condition.ensures) in
    told_by_number P n r c.args.drawing.now.trace c.as_slice-states.result.now c.in_ok-text-in-Ok.text found
    c.as_slice-states.ensures.value c.in_ok-text-in-Ok.ensures

pub returns-in-Err-Step : goal.returns-in-Err-Step
returns-in-Err-Step c =
    let P = program_of c.args.typed.now in
    let n = c.args.drawing.now.condition in
    let r = c.in-Some.condition in
    let found : IsNumbered P n (Some r) =
    subst (λ Q. IsNumbered Q n (Some r)) c.requires.same (rw c.in-Some.is at c.in_ok-condition.ensures) in
    let fails : IsFailure P r (drawn_of c.args.drawing.now.trace) (Step c.in-Err-Step.number) =
    rw c.in-Err-Step.field-0-is at c.in-Err-Step.ensures.failed in
    subst (λ m. IsExplained P n c.args.drawing.now.trace.states.items (Fails m)) (sym c.in-Err-Step.number-is)
    (fails_by_number P n c.in-Err-Step.number r c.args.drawing.now.trace found fails)
