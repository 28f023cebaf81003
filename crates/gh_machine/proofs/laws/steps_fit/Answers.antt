use Rattle.gh_machine.proofs.Progress.{steps_fit}
use Rattle.gh_machine.proofs.laws.steps_fit.Goals as goal

pub returns : goal.returns
returns c = steps_fit
