use Rattle.gh_small.proofs.HeapLemmas.{counted_cells}
use Rattle.gh_small.proofs.laws.cells_are_counted.Goals as goal

pub returns : goal.returns
returns c = counted_cells
