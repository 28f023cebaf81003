use Rattle.gh_assert.proofs.WalkLaws.{parts_split_off}
use Rattle.gh_assert.proofs.laws.parts_split_off.Goals as goal

pub returns : goal.returns
returns c = parts_split_off
