use Rattle.std.proofs.Common.{rules}
use Rattle.std.proofs.lemmas.List.Sorted.{answers_always}
use Rattle.gh_assert.proofs.CellLists.{searched}
use Rattle.gh_assert.proofs.heap.place.Goals as goal

-- the closure gives a cell's place
pub returns : goal.returns
returns c =
    let facts = c.binary_search_by_key.ensures in
    let by_place = facts.position (λ cell. cell.at) (answers_always _ _ _ (λ f a r g called. search rules)) in
    searched c.args.cells.now c.args.at c.binary_search_by_key.result c.requires facts.bound by_place
