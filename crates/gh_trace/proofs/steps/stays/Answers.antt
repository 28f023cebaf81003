use Rattle.std.proofs.lemmas.Result.{IfOk-weaker}
use Rattle.gh_assert.specs.Stores.{store_of}
use Rattle.gh_trace.proofs.StepLemmas.{same_state, state_keeps, state_heap}
use Rattle.gh_trace.proofs.steps.stays.Goals as goal

pub returns-then-not-keeps : goal.returns-then-not-keeps
returns-then-not-keeps c = (
  λ no. absurd cc,
  λ same. (let kept = c.keeps.ensures.1
      (state_keeps (store_of c.args.before.now.store) (store_of c.args.after.now.store) c.args.before.now.heap
      c.args.after.now.heap same) in absurd cc),
)

pub returns : goal.returns
returns c =
    let s = store_of c.args.before.now.store in
    let t = store_of c.args.after.now.store in
    let h = c.args.before.now.heap in
    let k = c.args.after.now.heap in
    IfOk-weaker c.is_same_outside.result _ _
    (λ b w. (
      λ is. same_state s t h k (c.keeps.ensures.0 c.if-not-keeps.false) (w.0 is),
      λ same. w.1 (state_heap s t h k same),
    )) c.is_same_outside.ensures
