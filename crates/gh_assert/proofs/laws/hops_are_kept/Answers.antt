use Rattle.gh_assert.proofs.Kept.{hops_are_kept}
use Rattle.gh_assert.proofs.laws.hops_are_kept.Goals as goal

pub returns : goal.returns
returns c = hops_are_kept
