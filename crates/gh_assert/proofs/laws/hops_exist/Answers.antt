use Rattle.gh_assert.proofs.Hops.{hops_exist}
use Rattle.gh_assert.proofs.laws.hops_exist.Goals as goal

pub returns : goal.returns
returns c = hops_exist
