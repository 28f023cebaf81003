use Rattle.gh_assert.proofs.Proper.{met_are_proper}
use Rattle.gh_assert.proofs.laws.met_are_proper.Goals as goal

pub returns : goal.returns
returns c = met_are_proper
