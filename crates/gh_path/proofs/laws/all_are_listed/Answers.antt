use Rattle.gh_path.proofs.Listed.{all_are_listed}
use Rattle.gh_path.proofs.laws.all_are_listed.Goals as goal

pub returns : goal.returns
returns c = all_are_listed
