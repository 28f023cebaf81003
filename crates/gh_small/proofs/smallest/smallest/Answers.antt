use Rattle.gh_ast.specs.Plain.{program_of}
use Rattle.gh_path.specs.Kept.{condition_of}
use Rattle.gh_ground.specs.Solving.{IsAnswer}
use Rattle.gh_ground.specs.declared.solve.Answer.TheVariants.{Model, Refutation}
use Rattle.gh_decide.specs.Verdicts.{IsGroundOf}
use Rattle.gh_decide.proofs.Parts.{shown}
use Rattle.gh_small.proofs.DescentLemmas.{first_model}
use Rattle.gh_small.proofs.SmallestLemmas.{smallest_found}
use Rattle.gh_small.proofs.smallest.smallest.Goals as goal

pub returns-in-Refutation : goal.returns-in-Refutation
returns-in-Refutation c =
    let P = program_of c.args.typed.now in
    let r = c.args.condition.now in
    let proc = c.in_ok-ground.ground in
    let ground : IsGroundOf P r proc =
    λ q of. c.in_ok-ground.ensures.told P q (condition_of r) (c.in_ok-symbolic.ensures q of) in
    let is : IsAnswer proc (Refutation c.in-Refutation.field-0) =
    rw c.in-Refutation.is at c.in_ok-answer.ensures.answer in
    (shown P r proc c.in-Refutation.field-0 c.requires.admitted.typed c.requires.one ground is).valid

pub descend-requires : goal.descend-requires
descend-requires c =
    let p = c.in_ok-ground.ground in
    let is : IsAnswer p (Model c.in-Model.first) = rw c.in-Model.is at c.in_ok-answer.ensures.answer in
    first_model p c.in-Model.first is

pub returns : goal.returns
returns c =
    let P = program_of c.args.typed.now in
    let r = c.args.condition.now in
    let proc = c.in_ok-ground.ground in
    let ground : IsGroundOf P r proc =
    λ q of. c.in_ok-ground.ensures.told P q (condition_of r) (c.in_ok-symbolic.ensures q of) in
    smallest_found P r proc c.in_ok-fewest-in-Model.fewest c.in_ok-trace-in-Model.trace c.requires.admitted.typed ground
    c.sizes-sizes.ensures.valid c.in_ok-fewest-in-Model.ensures.fewest
    c.in_ok-trace-in-Model.ensures c.requires.one
