use Rattle.std.proofs.Common.{ap, ◌∙◌, sym, subst, nat_cmp}
use Rattle.std.specs.FinMap.{entries, entries-from_sorted}
use Rattle.gh_assert.specs.Cells.{pairs, AreCells}
use Rattle.gh_assert.proofs.heap.Heap.cells.Goals as goal

pub returns : goal.returns
returns c = record {
  entries =
      ap pairs c.as_slice.ensures.value
      ∙ sym (entries-from_sorted nat_cmp (pairs c.self.inside.cells.items) c.self.invariant.ascending)
      ∙ ap entries c.self.view_is;
  cells = subst AreCells (sym c.as_slice.ensures.value) c.self.invariant;
}
