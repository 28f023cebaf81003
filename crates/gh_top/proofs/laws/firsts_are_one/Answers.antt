use Rattle.gh_top.proofs.FirstLemmas.{firsts_are_one}
use Rattle.gh_top.proofs.laws.firsts_are_one.Goals as goal

pub returns : goal.returns
returns c = firsts_are_one
