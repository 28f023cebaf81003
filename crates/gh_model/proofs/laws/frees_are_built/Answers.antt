use Rattle.gh_model.proofs.heaps.HeapSteps.{frees_are_built}
use Rattle.gh_model.proofs.laws.frees_are_built.Goals as goal

pub returns : goal.returns
returns c = frees_are_built
