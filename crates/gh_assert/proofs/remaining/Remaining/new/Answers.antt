use Rattle.std.proofs.Common.{◌≡◌, ◌∙◌, ap, length, false}
use Rattle.std.specs.Prelude.{replicate}
use Rattle.std.specs.FinMap.{same_entries_map, entries-from_sorted}
use Rattle.std.specs.Ordering.{nat_cmp}
use Rattle.gh_assert.specs.Cells.{pairs, unmarked}
use Rattle.gh_assert.proofs.Marks.{all_unmarked}
use Rattle.gh_assert.proofs.remaining.Remaining.new.Goals as goal

pub returns-clause-whole : goal.returns-clause-whole
returns-clause-whole c =
    same_entries_map _ _ (entries-from_sorted nat_cmp (pairs c.cells-cells.result.now)
    c.cells-cells.ensures.cells.ascending ∙ c.cells-cells.ensures.entries)

pub returns-clause-all : goal.returns-clause-all
returns-clause-all c =
    let cells = c.cells-cells.result.now in
    let marks : c.in_ok-taken.taken.items ≡ replicate (length cells) false =
    c.in_ok-taken.ensures.items_if_clones_equal (λ y e. e) in
    ap (λ ms. unmarked cells ms) marks ∙ all_unmarked cells (length cells)
    ∙ same_entries_map _ _ (entries-from_sorted nat_cmp (pairs cells) c.cells-cells.ensures.cells.ascending
    ∙ c.cells-cells.ensures.entries)
