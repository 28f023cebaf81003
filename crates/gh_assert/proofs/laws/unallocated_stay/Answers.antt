use Rattle.gh_assert.proofs.WalkLaws.{unallocated_stay}
use Rattle.gh_assert.proofs.laws.unallocated_stay.Goals as goal

pub returns : goal.returns
returns c = unallocated_stay
