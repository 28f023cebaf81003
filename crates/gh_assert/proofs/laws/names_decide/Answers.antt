use Rattle.gh_assert.proofs.Agree.{names_decide}
use Rattle.gh_assert.proofs.laws.names_decide.Goals as goal

pub returns : goal.returns
returns c = names_decide
