use Rattle.gh_assert.proofs.Unique.{one_footprint}
use Rattle.gh_assert.proofs.laws.one_footprint.Goals as goal

pub returns : goal.returns
returns c = one_footprint
