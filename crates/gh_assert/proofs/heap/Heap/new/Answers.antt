use Rattle.std.proofs.Common.{ap, ◌∙◌, nat_cmp, [], length}
use Rattle.std.specs.FinMap.{empty_of_len, len-entries, entries-from_sorted, from_sorted}
use Rattle.gh_assert.specs.Cells.{pairs}
use Rattle.gh_assert.proofs.heap.Heap.new.Goals as goal

pub returns : goal.returns
returns c =
    ap (λ cs. from_sorted (pairs cs)) c.new.ensures.items
    ∙ empty_of_len (from_sorted []) (len-entries (from_sorted []) ∙ ap length (entries-from_sorted nat_cmp [] tt))
