use Rattle.std.proofs.Common.{◌≡◌, ◌++◌, drop, take}
use Rattle.std.specs.Prelude.{All}
use Rattle.std.specs.List.{flat_map}
use Rattle.gh_assert.specs.Cells.{pairs}
use Rattle.gh_draw.specs.Drawings.{cell_text}
use Rattle.gh_draw.specs.Drawn.{IsValue}
use Rattle.gh_draw.proofs.drawing.push_heap.Given as goal

abbrev pub invariant-loop-cell : goal.invariant-loop-cell
invariant-loop-cell l = record {
  text : l.out ++ flat_map cell_text (pairs (drop l.cell-index l.cell-items))
      ≡ l.initial.out ++ flat_map cell_text (pairs l.cell-items);
  values : All (λ c. IsValue c.at × IsValue c.to) (take l.cell-index l.cell-items);
}
