use Rattle.gh_assert.proofs.Owned.{last_named}
use Rattle.gh_assert.proofs.laws.last_named_exists.Goals as goal

pub returns : goal.returns
returns c = last_named
