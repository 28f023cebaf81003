use Rattle.std.proofs.Common.{sym, subst}
use Rattle.std.proofs.lemmas.Result.{IfOk-weaker}
use Rattle.gh_ast.specs.Plain.{procedure_of}
use Rattle.gh_path.specs.Kept.{asked_at}
use Rattle.gh_scene.specs.Spare.{IsSpare, IsSpareAt}
use Rattle.gh_scene.proofs.spare.spare.Goals as goal
use Rattle.gh_trace.specs.Kept.{state_of}

pub returns-in-LoopEnd : goal.returns-in-LoopEnd
returns-in-LoopEnd c =
    let p = procedure_of c.args.setting.procedure.now in
    let x = state_of c.args.state.now in
    IfOk-weaker c.left_of_round.result _ (IsSpareAt c.args.setting c.args.kind.now c.args.state.now)
    (λ rest left at. subst (λ k. IsSpare p (asked_at k at) x rest) (sym c.in-LoopEnd.is) (left at))
    c.left_of_round.ensures
