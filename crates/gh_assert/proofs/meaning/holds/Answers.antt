use Rattle.std.proofs.Common.{subst}
use Rattle.gh_ast.specs.Plain.{assertion_of}
use Rattle.gh_assert.specs.Meaning.{Meaning}
use Rattle.gh_assert.specs.Stores.{store_of}
use Rattle.gh_assert.specs.Footprints.{Takes, NoPart}
use Rattle.gh_assert.proofs.Taking.{none_whole, nothing_left}
use Rattle.gh_assert.proofs.meaning.holds.Goals as goal

pub returns-then-not-take_part : goal.returns-then-not-take_part
returns-then-not-take_part c =
    let s = store_of c.args.store.now in
    let f = assertion_of c.args.assertion.now in
    let none : NoPart (Meaning f s) c.args.heap.now =
    subst (λ h. NoPart (Meaning f s) h) c.in_ok-remaining.ensures.all c.if-not-take_part.ensures.part in
    (λ holds. absurd cc, λ m. absurd (none_whole f s c.args.heap.now none m))

pub returns : goal.returns
returns c =
    let s = store_of c.args.store.now in
    let f = assertion_of c.args.assertion.now in
    let took : Takes (Meaning f s) c.args.heap.now c.take_part.new.remaining.1 =
    subst (λ h. Takes (Meaning f s) h c.take_part.new.remaining.1) c.in_ok-remaining.ensures.all
    c.if-not-take_part.ensures.part in
    let left = nothing_left f s c.args.heap.now c.take_part.new.remaining.1 took in
    (λ holds. left.0 (c.is_empty.ensures.0 holds), λ m. c.is_empty.ensures.1 (left.1 m))
