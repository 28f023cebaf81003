use Rattle.std.proofs.Common.{◌≡◌, ◌++◌, drop}
use Rattle.gh_assert.specs.Cells.{pairs}
use Rattle.gh_lens.specs.Lines.{places_text}
use Rattle.gh_lens.proofs.lines.push_places_of.Given as goal

abbrev pub invariant-loop-cell : goal.invariant-loop-cell
invariant-loop-cell l =
    l.text ++ places_text (pairs (drop l.cell-index l.cells)) ≡ l.initial.text ++ places_text (pairs l.cells)
