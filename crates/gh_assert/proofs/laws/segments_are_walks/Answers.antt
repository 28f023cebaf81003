use Rattle.gh_assert.proofs.WalkLaws.{segments_are_walks}
use Rattle.gh_assert.proofs.laws.segments_are_walks.Goals as goal

pub returns : goal.returns
returns c = segments_are_walks
