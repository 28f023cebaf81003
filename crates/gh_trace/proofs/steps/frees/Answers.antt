use Rattle.std.specs.FinMap.{remove}
use Rattle.std.proofs.lemmas.Result.{IfOk-weaker}
use Rattle.gh_assert.specs.Stores.{store_of}
use Rattle.gh_trace.proofs.StepLemmas.{there_at, state_keeps, frees_where}
use Rattle.gh_trace.proofs.steps.frees.Goals as goal

pub returns-then-not-keeps : goal.returns-then-not-keeps
returns-then-not-keeps c P proc =
    let s = store_of c.args.before.now.store in
    let h = c.args.before.now.heap in (
      λ f. absurd cc,
      λ takes.
          (let kept = c.keeps.ensures.1
          (state_keeps s (store_of c.args.after.now.store) (remove h (s c.args.at.now.name)) c.args.after.now.heap
          takes.1) in absurd cc),
    )

pub returns : goal.returns
returns c =
    let s = store_of c.args.before.now.store in
    let t = store_of c.args.after.now.store in
    let h = c.args.before.now.heap in
    let k = c.args.after.now.heap in
    let at =
    there_at h (s c.args.at.now.name) c.value_of-place.result c.get.result c.is_none.result c.value_of-place.ensures
    c.get.ensures c.is_none.ensures c.if-is_none.false in
    let r =
    frees_where s t h k (s c.args.at.now.name) c.value_of-place.result c.value_of-place.ensures at
    (c.keeps.ensures.0 c.if-not-keeps.false) in
    IfOk-weaker c.is_same_outside.result _ _ (λ b w P proc. (λ is. r.0 (w.0 is), λ takes. w.1 (r.1 takes)))
    c.is_same_outside.ensures
