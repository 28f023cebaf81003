use Rattle.gh_assert.proofs.Splitting.{splits_compose}
use Rattle.gh_assert.proofs.laws.splits_compose.Goals as goal

pub returns : goal.returns
returns c = splits_compose
