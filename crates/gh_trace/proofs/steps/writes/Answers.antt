use Rattle.std.proofs.Common.{◌∙◌, sym, Some}
use Rattle.std.specs.FinMap.{insert}
use Rattle.std.proofs.lemmas.Result.{IfOk-weaker}
use Rattle.gh_assert.specs.Stores.{store_of}
use Rattle.gh_assert.specs.Values.{result}
use Rattle.gh_trace.proofs.Lefts.{same_contents}
use Rattle.gh_trace.proofs.StepLemmas.{there_at, other_contents, state_keeps, writes_where, not_written}
use Rattle.gh_trace.proofs.steps.writes.Goals as goal

pub returns-then-ne : goal.returns-then-ne
returns-then-ne c P proc =
    let s = store_of c.args.before.now.store in
    let h = c.args.before.now.heap in
    let v = sym c.expr_value.ensures ∙ c.in-Some.is in (
      λ f. absurd cc,
      λ takes. absurd (not_written s (store_of c.args.after.now.store) h c.args.after.now.heap (s c.args.at.now.name)
          c.value_of-place.result c.in-Some.value (result s h c.args.expr.now) c.value_of-place.ensures v
          (λ same. other_contents c.get-2.result (Some c.in-Some.value) (sym c.ne.ensures ∙ c.if-ne.true)
          (c.get-2.ensures ∙ same)) takes),
    )

pub returns-then-not-keeps : goal.returns-then-not-keeps
returns-then-not-keeps c P proc =
    let s = store_of c.args.before.now.store in
    let h = c.args.before.now.heap in (
      λ f. absurd cc,
      λ takes.
          (let kept = c.keeps.ensures.1
          (state_keeps s (store_of c.args.after.now.store) (insert h (s c.args.at.now.name) takes.0)
          c.args.after.now.heap takes.3) in absurd cc),
    )

pub returns : goal.returns
returns c =
    let s = store_of c.args.before.now.store in
    let t = store_of c.args.after.now.store in
    let h = c.args.before.now.heap in
    let k = c.args.after.now.heap in
    let proc = s c.args.at.now.name in
    let at =
    there_at h proc c.value_of-place.result c.get.result c.is_none.result c.value_of-place.ensures c.get.ensures
    c.is_none.ensures c.if-is_none.false in
    let v = sym c.expr_value.ensures ∙ c.in-Some.is in
    let there =
    sym c.get-2.ensures ∙ same_contents c.get-2.result (Some c.in-Some.value) (sym c.ne.ensures ∙ c.if-ne.false) in
    let r =
    writes_where s t h k proc c.value_of-place.result c.in-Some.value (result s h c.args.expr.now)
    c.value_of-place.ensures v at there (c.keeps.ensures.0 c.if-not-keeps.false) in
    IfOk-weaker c.is_same_outside.result _ _ (λ b w P proc. (λ is. r.0 (w.0 is), λ takes. w.1 (r.1 takes)))
    c.is_same_outside.ensures
