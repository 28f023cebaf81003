use Rattle.std.proofs.Common.{arith}
use Rattle.std.proofs.lemmas.Grind.{common_steps}
use Rattle.std.proofs.lemmas.List.Elements.{All-more}
use Rattle.gh_assert.specs.declared.heap.Cell.{Cell}
use Rattle.gh_draw.specs.Drawn.{IsValue}
use Rattle.gh_draw.proofs.Values.{cells_done}
use Rattle.gh_draw.proofs.drawing.push_heap.Goals as goal

pub loop-cell-preserved : goal.loop-cell-preserved
loop-cell-preserved c = record {
  text = grind (arith, common_steps);
  values =
      All-more (λ (d : Cell). IsValue d.at × IsValue d.to) c.cells-cell-items.result.now c.loop-cell.cell-index
      (record { at = 0; to = 0 }) c.loop-cell-test.true c.loop-cell.invariant.values c.in_ok-push_cell.ensures.values;
}

pub returns-clause-cells : goal.returns-clause-cells
returns-clause-cells c =
    cells_done c.cells-cell-items.result.now c.loop-cell.cell-index c.args.heap.now c.loop-cell-test.false
    c.cells-cell-items.ensures.entries
    c.cells-cell-items.ensures.cells.not_null c.loop-cell.invariant.values
