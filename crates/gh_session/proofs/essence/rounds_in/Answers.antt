use Rattle.std.proofs.Common.{◌∙◌, ap, map, subst, IfOk}
use Rattle.gh_path.specs.Walking.{loop_of}
use Rattle.gh_session.specs.Views.{AreLoopContractsAt}
use Rattle.gh_session.proofs.essence.rounds_in.Goals as goal

pub returns : goal.returns
returns c =
    subst (λ ls. IfOk c.rounds.result (λ v. AreLoopContractsAt c.args.variables.now ls c.args.numbers.now v.items))
    (ap (map loop_of) c.as_slice.ensures.value ∙ c.in_ok-found.ensures)
    c.rounds.ensures
