use Rattle.gh_model.proofs.reading.StepFormulas.{writes_are_preserved}
use Rattle.gh_model.proofs.laws.writes_are_preserved.Goals as goal

pub returns : goal.returns
returns c = writes_are_preserved
