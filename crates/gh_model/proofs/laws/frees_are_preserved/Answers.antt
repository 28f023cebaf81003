use Rattle.gh_model.proofs.reading.StepFormulas.{frees_are_preserved}
use Rattle.gh_model.proofs.laws.frees_are_preserved.Goals as goal

pub returns : goal.returns
returns c = frees_are_preserved
