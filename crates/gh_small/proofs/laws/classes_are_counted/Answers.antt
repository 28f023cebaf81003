use Rattle.gh_small.proofs.ClassLemmas.{counted}
use Rattle.gh_small.proofs.laws.classes_are_counted.Goals as goal

pub returns : goal.returns
returns c = counted
