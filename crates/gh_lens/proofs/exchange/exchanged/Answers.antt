use Rattle.std.proofs.Common.{◌≡◌, ◌∙◌, ap, subst}
use Rattle.std.specs.Prelude.{IfNone, IfSome}
use Rattle.gh_ast.specs.Plain.{assertion_of}
use Rattle.gh_assert.specs.Meaning.{HasPart}
use Rattle.gh_assert.specs.Footprints.{IsFootprint}
use Rattle.gh_assert.specs.Stores.{store_of}
use Rattle.gh_trace.specs.Left.{left}
use Rattle.gh_trace.specs.Traces.{Replaced}
use Rattle.gh_trace.proofs.Lefts.{no_part_stands}
use Rattle.gh_lens.proofs.Exchanging.{exchanged}
use Rattle.gh_lens.proofs.exchange.exchanged.Goals as goal

pub returns-in_default-clause-none : goal.returns-in_default-clause-none
returns-in_default-clause-none c =
    let f = assertion_of c.args.before.assertion.now in
    let s = store_of c.args.before.store.now in
    let h = c.args.before.heap.now in
    let none : HasPart f s h → ⊥ =
    subst (λ o. IfNone o (HasPart f s h → ⊥)) c.in_default.is c.in_ok-handed.ensures.none in
    no_part_stands f s h c.args.after.now none

pub returns-clause-some : goal.returns-clause-some
returns-clause-some c =
    let f = assertion_of c.args.before.assertion.now in
    let s = store_of c.args.before.store.now in
    let h = c.args.before.heap.now in
    let k = c.args.after.now in
    let found : IsFootprint f s h c.in-Some.handed.items =
    subst (λ o. IfSome o (λ v. IsFootprint f s h v.items)) c.in-Some.is c.in_ok-handed.ensures.found in
    let stands : Replaced f s h (λ a. a ≡ c.in-Some-2.back) k =
    subst (λ o. IfSome o (λ other. Replaced f s h (λ a. a ≡ other) k)) c.in-Some-2.is c.in_ok-back.ensures.found in
    exchanged f s h k (record { handed = c.in-Some.handed; frame = c.in_ok-frame.frame; back = c.in-Some-2.back }) found
    (c.in_ok-frame.ensures ∙ ap (left h) c.as_slice.ensures.value) stands
