use Rattle.gh_ast.specs.Plain.{program_of}
use Rattle.gh_path.specs.Kept.{condition_of}
use Rattle.gh_ground.specs.Solving.{IsAnswer}
use Rattle.gh_ground.specs.declared.solve.Answer.TheVariants.{Model, Refutation}
use Rattle.gh_trace.specs.Kept.{drawn_of}
use Rattle.gh_decide.specs.Verdicts.{IsGroundOf}
use Rattle.gh_decide.proofs.Parts.{shown, refuted}
use Rattle.gh_decide.proofs.decide.decide_with.Goals as goal

pub returns-in-Refutation : goal.returns-in-Refutation
returns-in-Refutation c =
    let P = program_of c.args.typed.now in
    let r = c.args.condition.now in
    let proc = c.in_ok-ground.ground in
    let ground : IsGroundOf P r proc =
    λ q of. c.in_ok-ground.ensures.told P q (condition_of r) (c.in_ok-symbolic.ensures q of) in
    let is : IsAnswer proc (Refutation c.in-Refutation.section) =
    rw c.in-Refutation.is at c.in_ok-section.ensures.answer in
    shown P r proc c.in-Refutation.section c.requires.admitted.typed c.requires.one ground is

pub returns : goal.returns
returns c =
    let P = program_of c.args.typed.now in
    let r = c.args.condition.now in
    let proc = c.in_ok-ground.ground in
    let ground : IsGroundOf P r proc =
    λ q of. c.in_ok-ground.ensures.told P q (condition_of r) (c.in_ok-symbolic.ensures q of) in
    let is : IsAnswer proc (Model c.in-Model.structure) = rw c.in-Model.is at c.in_ok-section.ensures.answer in
    refuted P r proc c.in-Model.structure (drawn_of c.in_ok-trace-in-Model.trace) c.requires.admitted.typed
    c.requires.one ground is c.in_ok-trace-in-Model.ensures
