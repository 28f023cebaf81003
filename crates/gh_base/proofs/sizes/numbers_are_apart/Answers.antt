use Rattle.gh_base.proofs.NumberLemmas.{apart}
use Rattle.gh_base.proofs.sizes.numbers_are_apart.Goals as goal

pub returns : goal.returns
returns c = apart
