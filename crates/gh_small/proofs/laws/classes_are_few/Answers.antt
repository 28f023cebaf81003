use Rattle.gh_small.proofs.ClassLemmas.{few}
use Rattle.gh_small.proofs.laws.classes_are_few.Goals as goal

pub returns : goal.returns
returns c = few
