use Rattle.gh_assert.proofs.Owned.{one_points}
use Rattle.gh_assert.proofs.laws.one_points_there.Goals as goal

pub returns : goal.returns
returns c = one_points
