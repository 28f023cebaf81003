use Rattle.gh_ground.proofs.OpenLemmas.{are_clauses_true}
use Rattle.gh_ground.proofs.laws.are_clauses_true.Goals as goal

pub returns : goal.returns
returns c = are_clauses_true
