use Rattle.gh_path.proofs.Order.{paths_are_ordered}
use Rattle.gh_path.proofs.laws.paths_are_ordered.Goals as goal

pub returns : goal.returns
returns c = paths_are_ordered
