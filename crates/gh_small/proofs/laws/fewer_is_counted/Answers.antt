use Rattle.gh_small.proofs.CountedLemmas.{many}
use Rattle.gh_small.proofs.laws.fewer_is_counted.Goals as goal

pub returns : goal.returns
returns c = many
