use Rattle.std.proofs.Common.{◌≡◌, ◌<◌, ℕ, List, length, get_or, refl, ◌+◌, ◌∙◌, sym, ap, subst, drop, add-one}
use Rattle.std.proofs.lemmas.List.{drop_all}
use Rattle.std.proofs.Math.Seq.{drop-cons}
use Rattle.gh_ast.specs.Plain.{assertion_of, assertions_view, assertion_first, no_assertions, empty, segment}
use Rattle.gh_ast.specs.declared.Assertion.{Assertion}
use Rattle.gh_assert.specs.Meaning.{Meaning, MeaningAll}
use Rattle.gh_assert.specs.Stores.{store_of}
use Rattle.gh_assert.specs.Footprints.{Took, Takes, NoPart}
use Rattle.gh_assert.proofs.Cells.{get_nothing}
use Rattle.gh_assert.proofs.PlainForms.{plain_emp, plain_pure, plain_points_to, plain_acc, plain_lseg}
use Rattle.gh_assert.proofs.Taking.{takes_nothing, compared_takes, cell_took, points_took, GoesOn, star_goes}
use Rattle.gh_assert.proofs.Taking.{star_fails}
use Rattle.gh_assert.proofs.meaning.+part.Goals as goal

pub take_part-returns-in-Emp-clause-part : goal.take_part-returns-in-Emp-clause-part
take_part-returns-in-Emp-clause-part t c =
    let is : assertion_of c.args.assertion.now ≡ empty = ap assertion_of c.in-Emp.is ∙ plain_emp in
    subst (λ f. Takes (Meaning f (store_of c.args.store.now)) c.args.remaining.now.1 c.args.remaining.now.1) (sym is)
    (takes_nothing (Meaning empty (store_of c.args.store.now)) c.args.remaining.now.1 get_nothing)

pub take_part-returns-in-Pure-clause-part : goal.take_part-returns-in-Pure-clause-part
take_part-returns-in-Pure-clause-part t c =
    compared_takes (assertion_of c.args.assertion.now) c.in-Pure.left c.in-Pure.right c.in-Pure.equal c.compares.result
    (store_of c.args.store.now) c.args.remaining.now.1
    (ap assertion_of c.in-Pure.is ∙ plain_pure c.in-Pure.left c.in-Pure.equal c.in-Pure.right)
    (rw (← c.operand_value.ensures, ← c.operand_value-in-Pure.ensures) c.compares.ensures)

pub take_part-returns-in-PointsTo-clause-part : goal.take_part-returns-in-PointsTo-clause-part
take_part-returns-in-PointsTo-clause-part t c =
    let place = c.value_of.ensures in
    rw (c.eq.ensures, c.operand_value-in-PointsTo.ensures, c.take.ensures.rest, place)
    (points_took (assertion_of c.args.assertion.now) c.in-PointsTo.at c.in-PointsTo.to (store_of c.args.store.now)
    c.args.remaining.now.1 c.take.result
    (ap assertion_of c.in-PointsTo.is ∙ plain_points_to c.in-PointsTo.at c.in-PointsTo.to)
    (rw (← place) c.take.ensures.content) (rw (← place) c.take.ensures.not_null))

pub take_part-returns-in-Acc-clause-part : goal.take_part-returns-in-Acc-clause-part
take_part-returns-in-Acc-clause-part t c =
    let place = c.value_of-in-Acc.ensures in
    rw (c.is_some.ensures, c.take-in-Acc.ensures.rest, place)
    (cell_took (assertion_of c.args.assertion.now) c.in-Acc.at (store_of c.args.store.now) c.args.remaining.now.1
    c.take-in-Acc.result
    (ap assertion_of c.in-Acc.is ∙ plain_acc c.in-Acc.at) (rw (← place) c.take-in-Acc.ensures.content)
    (rw (← place) c.take-in-Acc.ensures.not_null))

pub take_part-returns-in-Lseg-clause-part : goal.take_part-returns-in-Lseg-clause-part
take_part-returns-in-Lseg-clause-part t c =
    let is : assertion_of c.args.assertion.now ≡ segment c.in-Lseg.from c.in-Lseg.to =
    ap assertion_of c.in-Lseg.is ∙ plain_lseg c.in-Lseg.from c.in-Lseg.to in
    subst (λ f. Took c.take_segment.result (Meaning f (store_of c.args.store.now)) c.args.remaining.now.1
    c.take_segment.new.remaining.1) (sym is)
    (rw (c.operand_value-in-Lseg.ensures, c.operand_value-in-Lseg-2.ensures) at c.take_segment.ensures.part)

-- the members from a place on
members_from : (members : List Assertion) (i : ℕ) (m : Assertion) → i < length members → m ≡ get_or members i m
    → assertions_view (drop i members) ≡ assertion_first (assertion_of m) (assertions_view (drop (i + 1) members))
members_from members i m within is = ap assertions_view (drop-cons members i m within) ∙ rw (← is, add-one i) refl

pub take_parts-returns-then-not-take_part-clause-part :
    goal.take_parts-returns-then-not-take_part-clause-part
take_parts-returns-then-not-take_part-clause-part t c =
    let s = store_of c.args.store.now in
    let members = c.args.members.now in
    let turn =
    members_from members c.loop-member.member-index c.member-item.result c.loop-member-test.true c.member-item.is in
    c.loop-member.invariant.goes.back (subst (λ fs. NoPart (MeaningAll fs s) c.loop-member.remaining.1) (sym turn)
    (star_fails (assertion_of c.member-item.result) (assertions_view (drop (c.loop-member.member-index + 1) members)) s
    c.loop-member.remaining.1 c.if-not-take_part.ensures.part))

pub take_parts-loop-member-preserved : goal.take_parts-loop-member-preserved
take_parts-loop-member-preserved t c =
    let s = store_of c.args.store.now in
    let members = c.args.members.now in
    let turn =
    members_from members c.loop-member.member-index c.member-item.result c.loop-member-test.true c.member-item.is in
    record {
      whole = c.if-not-take_part.ensures.whole ∙ c.loop-member.invariant.whole;
      goes = star_goes (MeaningAll (assertions_view members) s) (assertion_of c.member-item.result)
          (assertions_view (drop (c.loop-member.member-index + 1) members)) s c.args.remaining.now.1
          c.loop-member.remaining.1 c.take_part.new.remaining.1
          (subst (λ fs. GoesOn (MeaningAll (assertions_view members) s) (MeaningAll fs s) c.args.remaining.now.1
          c.loop-member.remaining.1) turn c.loop-member.invariant.goes) c.if-not-take_part.ensures.part;
    }

pub take_parts-returns-clause-part : goal.take_parts-returns-clause-part
take_parts-returns-clause-part t c =
    let s = store_of c.args.store.now in
    let members = c.args.members.now in
    let end : assertions_view (drop c.loop-member.member-index members) ≡ no_assertions =
    ap assertions_view (drop_all c.loop-member.member-index members c.loop-member-test.false) in
    c.loop-member.invariant.goes.on c.loop-member.remaining.1
    (subst (λ fs. Takes (MeaningAll fs s) c.loop-member.remaining.1 c.loop-member.remaining.1) (sym end)
    (takes_nothing (MeaningAll no_assertions s) c.loop-member.remaining.1 get_nothing))
