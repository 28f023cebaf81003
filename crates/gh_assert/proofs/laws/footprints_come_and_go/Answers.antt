use Rattle.gh_assert.proofs.Kept.{footprints_come_and_go}
use Rattle.gh_assert.proofs.laws.footprints_come_and_go.Goals as goal

pub returns : goal.returns
returns c = footprints_come_and_go
