use Rattle.std.proofs.Common.{arith}
use Rattle.gh_picture.proofs.OrderLemmas.{next_begins, next_stands}
use Rattle.gh_picture.proofs.layout.place_each.Goals as goal

pub loop-from-init : goal.loop-from-init
loop-from-init c = record {
  lines = c.requires.lines;
  begun = λ k some less. absurd (omega (arith, some, less));
  all = λ k d less. absurd (omega (arith, less));
  few = omega arith;
}

pub loop-from-preserved : goal.loop-from-preserved
loop-from-preserved c =
    let i = c.loop-from.from-index in
    let old = c.loop-from.spots in
    let new = c.begin_line-line.new.spots in
    let inv = c.loop-from.invariant in record {
      lines = c.begin_line-line.ensures.lines;
      begun =
          next_begins c.args.cells.now c.args.order.now i 0 old new c.loop-from.line c.begin_line-line.result
          c.loop-from-test.true inv.lines
          c.begin_line-line.ensures.kept c.begin_line-line.ensures.begins inv.all inv.begun;
      all = next_stands c.args.order.now i 0 old new c.loop-from-test.true c.begin_line-line.ensures.kept
          c.begin_line-line.ensures.placed inv.all;
      few = omega (arith, c.begin_line-line.ensures.few, inv.few);
    }
