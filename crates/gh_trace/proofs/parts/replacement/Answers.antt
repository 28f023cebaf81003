use Rattle.std.proofs.Common.{◌≡◌, sym, subst}
use Rattle.std.specs.Prelude.{IfNone, IfSome}
use Rattle.std.proofs.lemmas.Result.{IfOk-weaker}
use Rattle.gh_ast.specs.Plain.{assertion_of}
use Rattle.gh_assert.specs.Heaps.{Splits}
use Rattle.gh_assert.specs.Meaning.{HasPart}
use Rattle.gh_assert.specs.Stores.{store_of}
use Rattle.gh_assert.specs.Footprints.{IsFootprint}
use Rattle.gh_trace.specs.Left.{left}
use Rattle.gh_trace.specs.Traces.{Replaced}
use Rattle.gh_trace.proofs.Insides.{if_some, if_none}
use Rattle.gh_trace.proofs.Lefts.{other_stands, no_other_stands, no_part_stands}
use Rattle.gh_trace.proofs.parts.replacement.Goals as goal

pub returns-in_default-clause-none : goal.returns-in_default-clause-none
returns-in_default-clause-none c =
    let f = assertion_of c.args.before.assertion.now in
    let s = store_of c.args.before.store.now in
    let h = c.args.before.heap.now in
    let none : HasPart f s h → ⊥ =
    subst (λ o. IfNone o (HasPart f s h → ⊥)) c.in_default.is c.in_ok-places.ensures.none in
    no_part_stands f s h c.args.after.now none

pub returns-clause-found : goal.returns-clause-found
returns-clause-found c =
    let f = assertion_of c.args.before.assertion.now in
    let s = store_of c.args.before.store.now in
    let h = c.args.before.heap.now in
    let k = c.args.after.now in
    let found : IsFootprint f s h c.in-Some.places.items =
    subst (λ o. IfSome o (λ v. IsFootprint f s h v.items)) c.in-Some.is c.in_ok-places.ensures.found in
    let places : IsFootprint f s h c.as_slice.result.now =
    subst (λ ps. IsFootprint f s h ps) (sym c.as_slice.ensures.value) found in
    IfOk-weaker c.outside_frame.result _ _
    (λ o w. if_some (λ other. Splits k other (left h c.as_slice.result.now))
    (λ other. Replaced f s h (λ a. a ≡ other) k) o
    (λ other split. other_stands f s h k c.as_slice.result.now other places split) w)
    c.outside_frame.ensures.found

pub returns-clause-none : goal.returns-clause-none
returns-clause-none c =
    let f = assertion_of c.args.before.assertion.now in
    let s = store_of c.args.before.store.now in
    let h = c.args.before.heap.now in
    let k = c.args.after.now in
    let found : IsFootprint f s h c.in-Some.places.items =
    subst (λ o. IfSome o (λ v. IsFootprint f s h v.items)) c.in-Some.is c.in_ok-places.ensures.found in
    let places : IsFootprint f s h c.as_slice.result.now =
    subst (λ ps. IsFootprint f s h ps) (sym c.as_slice.ensures.value) found in
    IfOk-weaker c.outside_frame.result _ _
    (λ o w. if_none o (λ none. no_other_stands f s h k c.as_slice.result.now places none) w)
    c.outside_frame.ensures.none
