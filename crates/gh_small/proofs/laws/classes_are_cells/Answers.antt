use Rattle.gh_small.proofs.CellLemmas.{cells}
use Rattle.gh_small.proofs.laws.classes_are_cells.Goals as goal

pub returns : goal.returns
returns c = cells
