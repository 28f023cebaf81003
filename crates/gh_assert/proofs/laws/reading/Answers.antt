use Rattle.gh_assert.proofs.Reading.{reading}
use Rattle.gh_assert.proofs.laws.reading.Goals as goal

pub returns : goal.returns
returns c = reading
