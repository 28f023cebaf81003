use Rattle.gh_model.proofs.reading.StepFormulas.{calls_are_preserved}
use Rattle.gh_model.proofs.laws.calls_are_preserved.Goals as goal

pub returns : goal.returns
returns c = calls_are_preserved
