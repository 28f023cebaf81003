use Rattle.gh_decide.proofs.Safe.{safe_means_paths_pass}
use Rattle.gh_decide.proofs.laws.safe_means_paths_pass.Goals as goal

pub returns : goal.returns
returns c = safe_means_paths_pass
