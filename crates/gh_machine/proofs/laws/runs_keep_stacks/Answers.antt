use Rattle.gh_machine.proofs.Stacks.{runs_keep_stacks}
use Rattle.gh_machine.proofs.laws.runs_keep_stacks.Goals as goal

pub returns : goal.returns
returns c = runs_keep_stacks
