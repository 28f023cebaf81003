use Rattle.gh_assert.proofs.Kept.{cells_come_and_go}
use Rattle.gh_assert.proofs.laws.cells_come_and_go.Goals as goal

pub returns : goal.returns
returns c = cells_come_and_go
