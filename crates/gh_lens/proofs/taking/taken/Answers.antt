use Rattle.std.proofs.Common.{◌∙◌, ap, subst}
use Rattle.std.specs.Prelude.{IfNone, IfSome}
use Rattle.gh_ast.specs.Plain.{assertion_of}
use Rattle.gh_assert.specs.Meaning.{HasPart}
use Rattle.gh_assert.specs.Footprints.{IsFootprint}
use Rattle.gh_assert.specs.Stores.{store_of}
use Rattle.gh_trace.specs.Left.{left}
use Rattle.gh_lens.proofs.Parting.{taking_goes, taking_blocked}
use Rattle.gh_lens.proofs.taking.taken.Goals as goal

pub returns-in_default : goal.returns-in_default
returns-in_default c =
    let f = assertion_of c.conjunct-item.result in
    let s = store_of c.args.store.now in
    let none : HasPart f s c.loop-conjunct.rest → ⊥ =
    subst (λ o. IfNone o (HasPart f s c.loop-conjunct.rest → ⊥)) c.in_default.is c.in_ok-places.ensures.none in
    taking_blocked c.args.conjuncts.now s c.args.heap.now c.loop-conjunct.rest c.loop-conjunct.conjunct-index
    c.conjunct-item.result c.loop-conjunct-test.true c.conjunct-item.is none c.loop-conjunct.invariant

pub loop-conjunct-preserved : goal.loop-conjunct-preserved
loop-conjunct-preserved c =
    let f = assertion_of c.conjunct-item.result in
    let s = store_of c.args.store.now in
    let found : IsFootprint f s c.loop-conjunct.rest c.in-Some.places.items =
    subst (λ o. IfSome o (λ v. IsFootprint f s c.loop-conjunct.rest v.items)) c.in-Some.is
    c.in_ok-places.ensures.found in
    taking_goes c.args.conjuncts.now s c.args.heap.now c.loop-conjunct.rest _ c.loop-conjunct.conjunct-index
    c.conjunct-item.result c.in-Some.places.items c.loop-conjunct-test.true c.conjunct-item.is
    found (c.in_ok-rest-2.ensures ∙ ap (left c.loop-conjunct.rest) c.as_slice.ensures.value) c.loop-conjunct.invariant
