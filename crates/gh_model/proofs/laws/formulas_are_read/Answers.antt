use Rattle.gh_model.proofs.laws.formulas_are_read.Goals as goal
use Rattle.gh_model.proofs.reading.ReadingLaw.{formulas_are_read}

pub returns : goal.returns
returns c = formulas_are_read
