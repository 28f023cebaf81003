use Rattle.gh_assert.proofs.Kept.{owned_union}
use Rattle.gh_assert.proofs.laws.unions_are_owned.Goals as goal

pub returns : goal.returns
returns c = owned_union
