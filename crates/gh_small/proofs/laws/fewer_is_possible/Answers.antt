use Rattle.gh_small.proofs.PossibleLemmas.{possible}
use Rattle.gh_small.proofs.laws.fewer_is_possible.Goals as goal

pub returns : goal.returns
returns c = possible
