use Rattle.std.proofs.Common.{◌≤◌, inl, inr, arith, refl}
use Rattle.gh_ground.specs.Solving.{IsAnswer}
use Rattle.gh_ground.specs.declared.solve.Answer.TheVariants.{Model}
use Rattle.gh_small.specs.Bounded.{bounded_by, HasRoom}
use Rattle.gh_small.proofs.DescentLemmas.{next_model, next_below, room_first, room_none}
use Rattle.gh_small.proofs.descent.descend.Goals as goal

pub loop-cells-init : goal.loop-cells-init
loop-cells-init c = record {
  model = c.requires;
  count = c.in_ok-cells.ensures.count;
  room = inl c.in_ok-cells.ensures.count;
}

pub loop-cells-smaller : goal.loop-cells-smaller
loop-cells-smaller c =
    let p = c.args.ground.now in
    let k = c.loop-cells.cells in
    let some : 1 ≤ k = omega arith in
    let is : IsAnswer (bounded_by p k) (Model c.in-Model.next) =
    rw c.in-Model.is at (rw c.in-Some.is at c.in_ok-answer.ensures.answer) in
    next_below p k c.in_ok-cells-in-Model.cells c.in-Model.next c.sizes-sizes.ensures.valid some is
    c.in_ok-cells-in-Model.ensures.few

pub loop-cells-preserved : goal.loop-cells-preserved
loop-cells-preserved c =
    let p = c.args.ground.now in
    let k = c.loop-cells.cells in
    let some : 1 ≤ k = omega arith in
    let is : IsAnswer (bounded_by p k) (Model c.in-Model.next) =
    rw c.in-Model.is at (rw c.in-Some.is at c.in_ok-answer.ensures.answer) in
    let room : HasRoom p k = c.in_ok-answer.ensures.room.0 (rw c.in-Some.is refl) in
    record {
      model = next_model p k c.in-Model.next c.sizes-sizes.ensures.valid some is;
      count = c.in_ok-cells-in-Model.ensures.count;
      room = inr (room_first p k c.args.first c.loop-cells.invariant.room room);
    }

pub returns-in-Refutation-clause-room : goal.returns-in-Refutation-clause-room
returns-in-Refutation-clause-room c =
    let p = c.args.ground.now in
    let k = c.loop-cells.cells in
    let room : HasRoom p k = c.in_ok-answer.ensures.room.0 (rw c.in-Some.is refl) in
    room_first p k c.args.first c.loop-cells.invariant.room room

pub returns-clause-room : goal.returns-clause-room
returns-clause-room c =
    room_none c.args.ground.now c.loop-cells.cells c.args.first c.loop-cells.invariant.room (omega arith)
