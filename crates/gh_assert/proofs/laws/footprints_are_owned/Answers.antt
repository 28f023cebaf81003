use Rattle.gh_assert.proofs.Kept.{footprints_are_owned}
use Rattle.gh_assert.proofs.laws.footprints_are_owned.Goals as goal

pub returns : goal.returns
returns c = footprints_are_owned
