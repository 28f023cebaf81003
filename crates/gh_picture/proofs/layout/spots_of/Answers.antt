use Rattle.std.specs.Prelude.{◌≡◌, length, map, Some}
use Rattle.std.proofs.Common.{arith, ◌∙◌, sym, subst}
use Rattle.std.proofs.lemmas.Grind.{common_steps}
use Rattle.std.proofs.lemmas.Result.{IfOk-weaker}
use Rattle.gh_picture.specs.Spots.{order_of, AreInOrder, AreSpots, AreWithin}
use Rattle.gh_picture.specs.Placing.{AllBegin, AllPlaced, EachStands}
use Rattle.gh_picture.proofs.OrderLemmas.{all_stand, in_order, order_within}
use Rattle.gh_picture.proofs.PlacingLemmas.{all_spots}
use Rattle.gh_picture.proofs.layout.spots_of.Goals as goal

pub place_each-lines-requires-clause-within : goal.place_each-lines-requires-clause-within
place_each-lines-requires-clause-within c =
    subst (AreWithin c.args.cells.now) (sym (c.as_slice.ensures.value ∙ c.in_ok-order.ensures))
    (order_within c.args.cells.now c.args.entries.now)

pub all_placed-requires : goal.all_placed-requires
all_placed-requires c =
    let b = c.place_each-lines.new.spots in
    let whole : c.as_slice-2.result.now ≡ b = grind (arith, common_steps) in
    let each : EachStands b (order_of c.args.cells.now c.args.entries.now) =
    subst (EachStands b) (c.as_slice.ensures.value ∙ c.in_ok-order.ensures) c.place_each-lines.ensures.all in
    let count : length b ≡ length c.args.cells.now = c.place_each-lines.ensures.lines.one_each in
    subst (λ z. AllPlaced z (length z)) (sym whole)
    (subst (AllPlaced b) (sym count) (all_stand c.args.cells.now c.args.entries.now b each))

pub returns-clause-lists : goal.returns-clause-lists
returns-clause-lists c =
    let b = c.place_each-lines.new.spots in
    let whole : c.as_slice-2.result.now ≡ b = grind (arith, common_steps) in
    IfOk-weaker c.all_placed.result (λ placed. map Some placed.items ≡ c.as_slice-2.result.now)
    (λ ss. AreSpots c.args.cells.now ss.items)
    (λ ss is. all_spots c.args.cells.now b c.place_each-lines.result ss.items c.place_each-lines.ensures.lines
    (is ∙ whole))
    c.all_placed.ensures

pub returns-clause-order : goal.returns-clause-order
returns-clause-order c =
    let b = c.place_each-lines.new.spots in
    let order = order_of c.args.cells.now c.args.entries.now in
    let whole : c.as_slice-2.result.now ≡ b = grind (arith, common_steps) in
    let same : c.as_slice.result.now ≡ order = c.as_slice.ensures.value ∙ c.in_ok-order.ensures in
    let begun : AllBegin order b c.place_each-lines.result =
    subst (λ ns. AllBegin ns b c.place_each-lines.result) same c.place_each-lines.ensures.begun in
    IfOk-weaker c.all_placed.result (λ placed. map Some placed.items ≡ c.as_slice-2.result.now)
    (λ ss. AreInOrder order ss.items)
    (λ ss is. in_order c.args.cells.now order b c.place_each-lines.result ss.items c.place_each-lines.ensures.lines
    begun (is ∙ whole))
    c.all_placed.ensures
