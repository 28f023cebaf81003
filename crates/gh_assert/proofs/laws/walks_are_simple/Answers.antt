use Rattle.gh_assert.proofs.WalkLaws.{walks_are_simple}
use Rattle.gh_assert.proofs.laws.walks_are_simple.Goals as goal

pub returns : goal.returns
returns c = walks_are_simple
