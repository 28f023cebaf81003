use Rattle.gh_model.proofs.reading.Assertions.{formulas_are_preserved}
use Rattle.gh_model.proofs.laws.formulas_are_preserved.Goals as goal

pub returns : goal.returns
returns c = formulas_are_preserved
