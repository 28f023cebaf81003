use Rattle.gh_assert.proofs.WalkLaws.{walks_are_short}
use Rattle.gh_assert.proofs.laws.walks_are_short.Goals as goal

pub returns : goal.returns
returns c = walks_are_short
