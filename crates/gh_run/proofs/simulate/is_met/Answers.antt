use Rattle.std.proofs.Common.{◌≡◌, subst}
use Rattle.std.specs.Prelude.{◌↔◌, IfNone, IfSome, IsTrue, map}
use Rattle.std.proofs.lemmas.Result.{IfOk-weaker}
use Rattle.gh_ast.specs.Plain.{assertion_of, procedure_of}
use Rattle.gh_assert.specs.Heaps.{Heap}
use Rattle.gh_assert.specs.Meaning.{MeetsOneOf}
use Rattle.gh_assert.specs.Stores.{store_of}
use Rattle.gh_trace.specs.Traces.{Replaced}
use Rattle.gh_trace.proofs.Lefts.{stands_where, nothing_stands}
use Rattle.gh_run.proofs.simulate.is_met.Goals as goal

pub returns-in_default : goal.returns-in_default
returns-in_default c =
    let q = procedure_of c.args.procedure.now in
    let s = store_of c.args.begin.now.store in
    let h = c.args.begin.now.heap in
    let k = c.args.last.now.heap in
    let none : (other : Heap) → Replaced q.needs s h (λ a. a ≡ other) k → ⊥ =
    subst (λ o. IfNone o ((other : Heap) → Replaced q.needs s h (λ a. a ≡ other) k → ⊥)) c.in_default.is
    c.in_ok-other.ensures.none in (
      λ no. absurd cc,
      λ r. absurd
          (nothing_stands q.needs s h k (MeetsOneOf q.gives (store_of c.args.last.now.store)) none r),
    )

pub returns : goal.returns
returns c =
    let q = procedure_of c.args.procedure.now in
    let s = store_of c.args.begin.now.store in
    let t = store_of c.args.last.now.store in
    let h = c.args.begin.now.heap in
    let k = c.args.last.now.heap in
    let stands : Replaced q.needs s h (λ a. a ≡ c.in-Some.other) k =
    subst (λ o. IfSome o (λ other. Replaced q.needs s h (λ a. a ≡ other) k)) c.in-Some.is
    c.in_ok-other.ensures.found in
    let r = stands_where q.needs s h k c.in-Some.other (MeetsOneOf q.gives t) stands in
    IfOk-weaker c.meets_one_of.result _ _
    (λ b w.
    let met = subst (λ fs. IsTrue b ↔ MeetsOneOf (map assertion_of fs) t c.in-Some.other) c.as_slice.ensures.value w in
    (λ is. r.0 (met.0 is), λ replaced. met.1 (r.1 replaced))) c.meets_one_of.ensures
