use Rattle.gh_assert.proofs.WalkLaws.{rows_hold}
use Rattle.gh_assert.proofs.laws.rows_hold.Goals as goal

pub returns : goal.returns
returns c = rows_hold
