use Rattle.gh_cc.proofs.PartialLemmas.{are_congruences}
use Rattle.gh_cc.proofs.laws.are_congruences.Goals as goal

pub returns : goal.returns
returns c = are_congruences
