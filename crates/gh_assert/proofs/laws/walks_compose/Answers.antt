use Rattle.gh_assert.proofs.WalkLaws.{walks_compose}
use Rattle.gh_assert.proofs.laws.walks_compose.Goals as goal

pub returns : goal.returns
returns c = walks_compose
