use Rattle.gh_assert.proofs.Decide.{parts_are_decided}
use Rattle.gh_assert.proofs.laws.parts_are_decided.Goals as goal

pub returns : goal.returns
returns c = parts_are_decided
