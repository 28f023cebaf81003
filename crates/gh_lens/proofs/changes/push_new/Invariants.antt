use Rattle.std.proofs.Common.{◌≡◌, ◌++◌, drop}
use Rattle.gh_assert.specs.Cells.{pairs}
use Rattle.gh_lens.specs.Changes.{new_changes}
use Rattle.gh_lens.proofs.changes.push_new.Given as goal

abbrev pub invariant-loop-cell : goal.invariant-loop-cell
invariant-loop-cell l =
    l.all.items ++ new_changes l.old (pairs (drop l.cell-index l.cells))
    ≡ l.initial.all.items ++ new_changes l.old (pairs l.cells)
