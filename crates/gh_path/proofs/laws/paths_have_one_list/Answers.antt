use Rattle.gh_path.proofs.Order.{paths_have_one_list}
use Rattle.gh_path.proofs.laws.paths_have_one_list.Goals as goal

pub returns : goal.returns
returns c = paths_have_one_list
