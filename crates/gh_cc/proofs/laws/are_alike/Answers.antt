use Rattle.gh_cc.proofs.PartialLemmas.{are_alike}
use Rattle.gh_cc.proofs.laws.are_alike.Goals as goal

pub returns : goal.returns
returns c = are_alike
