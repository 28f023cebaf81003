use Rattle.gh_grass.proofs.LawLemmas.{clauses_mean_formulas}
use Rattle.gh_grass.proofs.laws.clauses_mean_formulas.Goals as goal

pub returns : goal.returns
returns c = clauses_mean_formulas
