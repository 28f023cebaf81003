use Rattle.gh_assert.proofs.WalkLaws.{segments_exist}
use Rattle.gh_assert.proofs.laws.segments_exist.Goals as goal

pub returns : goal.returns
returns c = segments_exist
