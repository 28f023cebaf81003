use Rattle.std.proofs.Common.{◌≡◌, ◌++◌, drop}
use Rattle.gh_assert.specs.Cells.{pairs}
use Rattle.gh_lens.specs.Changes.{old_changes}
use Rattle.gh_lens.proofs.changes.push_old.Given as goal

abbrev pub invariant-loop-cell : goal.invariant-loop-cell
invariant-loop-cell l =
    l.all.items ++ old_changes l.new (pairs (drop l.cell-index l.cells))
    ≡ l.initial.all.items ++ old_changes l.new (pairs l.cells)
