use Rattle.gh_machine.proofs.Chosen.{steps_are_chosen}
use Rattle.gh_machine.proofs.laws.steps_are_chosen.Goals as goal

pub returns : goal.returns
returns c = steps_are_chosen
