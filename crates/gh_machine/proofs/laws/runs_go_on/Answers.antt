use Rattle.gh_machine.proofs.Progress.{runs_go_on}
use Rattle.gh_machine.proofs.laws.runs_go_on.Goals as goal

pub returns : goal.returns
returns c = runs_go_on
