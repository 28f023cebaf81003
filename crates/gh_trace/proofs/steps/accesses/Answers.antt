use Rattle.std.proofs.lemmas.Result.{IfOk-weaker}
use Rattle.gh_assert.specs.Stores.{store_of}
use Rattle.gh_trace.proofs.StepLemmas.{there_at}
use Rattle.gh_trace.proofs.steps.accesses.Goals as goal

pub returns : goal.returns
returns c =
    let at =
    there_at c.args.before.now.heap (store_of c.args.before.now.store c.args.at.now.name) c.value_of-place.result
    c.get.result c.is_none.result c.value_of-place.ensures c.get.ensures c.is_none.ensures c.if-is_none.false in
    IfOk-weaker c.stays.result _ _ (λ b w P proc. (λ t. (at, w.0 t), λ takes. w.1 takes.1)) c.stays.ensures
