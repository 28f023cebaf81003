use Rattle.gh_assert.proofs.Hops.{hop_rows}
use Rattle.gh_assert.proofs.laws.hop_rows_hold.Goals as goal

pub returns : goal.returns
returns c = hop_rows
