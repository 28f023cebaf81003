use Rattle.gh_grass.proofs.LawLemmas.{formulas_give_clauses}
use Rattle.gh_grass.proofs.laws.formulas_give_clauses.Goals as goal

pub returns : goal.returns
returns c = formulas_give_clauses
