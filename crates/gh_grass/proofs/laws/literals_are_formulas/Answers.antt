use Rattle.gh_grass.proofs.LawLemmas.{literals_are_formulas}
use Rattle.gh_grass.proofs.laws.literals_are_formulas.Goals as goal

pub returns : goal.returns
returns c = literals_are_formulas
