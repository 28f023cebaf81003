use Rattle.gh_ast.specs.Questions.{question_of}
use Rattle.gh_ground.specs.Solving.{IsAnswer}
use Rattle.gh_ground.specs.declared.solve.Answer.TheVariants.{Model, Refutation}
use Rattle.gh_entail.proofs.Answering.{shown, failed}
use Rattle.gh_entail.proofs.answer.decide_question.Goals as goal

pub returns-in-Refutation : goal.returns-in-Refutation
returns-in-Refutation c =
    let is : IsAnswer c.in_ok-ground.ground (Refutation c.in-Refutation.section) =
    rw c.in-Refutation.is at c.in_ok-section.ensures.answer in
    shown (question_of c.args.asked.now.question) c.in_ok-ground.ground c.in-Refutation.section c.in_ok-ground.ensures
    is

pub returns : goal.returns
returns c =
    let is : IsAnswer c.in_ok-ground.ground (Model c.in-Model.structure) =
    rw c.in-Model.is at c.in_ok-section.ensures.answer in
    failed (question_of c.args.asked.now.question) c.in_ok-ground.ground c.in-Model.structure c.args.asked.now.over
    c.in_ok-state-in-Model.state c.in_ok-ground.ensures is c.args.asked.now.admitted.typed c.args.asked.now.told
    c.in_ok-state-in-Model.ensures
