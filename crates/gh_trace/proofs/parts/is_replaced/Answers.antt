use Rattle.std.proofs.Common.{◌≡◌, subst}
use Rattle.std.specs.Prelude.{IfNone, IfSome}
use Rattle.std.proofs.lemmas.Result.{IfOk-weaker}
use Rattle.gh_ast.specs.Plain.{assertion_of}
use Rattle.gh_assert.specs.Heaps.{Heap}
use Rattle.gh_assert.specs.Meaning.{Meaning}
use Rattle.gh_assert.specs.Stores.{store_of}
use Rattle.gh_trace.specs.Traces.{Replaced}
use Rattle.gh_trace.proofs.Lefts.{stands_where, nothing_stands}
use Rattle.gh_trace.proofs.parts.is_replaced.Goals as goal

pub returns-in_default : goal.returns-in_default
returns-in_default c =
    let f = assertion_of c.args.before.assertion.now in
    let s = store_of c.args.before.store.now in
    let h = c.args.before.heap.now in
    let k = c.args.after.heap.now in
    let none : (other : Heap) → Replaced f s h (λ a. a ≡ other) k → ⊥ =
    subst (λ o. IfNone o ((other : Heap) → Replaced f s h (λ a. a ≡ other) k → ⊥)) c.in_default.is
    c.in_ok-other.ensures.none in (
      λ no. absurd cc,
      λ r. absurd
          (nothing_stands f s h k (Meaning (assertion_of c.args.after.assertion.now) (store_of c.args.after.store.now))
          none r),
    )

pub returns : goal.returns
returns c =
    let f = assertion_of c.args.before.assertion.now in
    let s = store_of c.args.before.store.now in
    let h = c.args.before.heap.now in
    let k = c.args.after.heap.now in
    let stands : Replaced f s h (λ a. a ≡ c.in-Some.other) k =
    subst (λ o. IfSome o (λ other. Replaced f s h (λ a. a ≡ other) k)) c.in-Some.is c.in_ok-other.ensures.found in
    let r =
    stands_where f s h k c.in-Some.other
    (Meaning (assertion_of c.args.after.assertion.now) (store_of c.args.after.store.now)) stands in
    IfOk-weaker c.holds.result _ _ (λ b w. (λ met. r.0 (w.0 met), λ is. w.1 (r.1 is))) c.holds.ensures
