use Rattle.gh_small.proofs.ModelLemmas.{bounded_possible}
use Rattle.gh_small.proofs.laws.bounded_is_possible.Goals as goal

pub returns : goal.returns
returns c = bounded_possible
