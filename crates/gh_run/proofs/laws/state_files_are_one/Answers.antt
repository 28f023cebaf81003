use Rattle.gh_run.proofs.OneFile.{state_files_are_one}
use Rattle.gh_run.proofs.laws.state_files_are_one.Goals as goal

pub returns : goal.returns
returns c = state_files_are_one
