use Rattle.std.proofs.lemmas.Result.{IfOk-weaker}
use Rattle.gh_trace.proofs.replay.is_next.Goals as goal

pub returns-clause-next : goal.returns-clause-next
returns-clause-next c =
    let over = c.is_over.ensures.0 c.if-not-is_over.false in
    IfOk-weaker c.leads.result _ _ (λ b w. (λ t. (over, w.0 t), λ leads. w.1 leads.1)) c.leads.ensures

pub returns-clause-over : goal.returns-clause-over
returns-clause-over c =
    let over = c.is_over.ensures.0 c.if-not-is_over.false in
    IfOk-weaker c.leads.result _ _ (λ b w t. over) c.leads.ensures
