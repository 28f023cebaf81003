use Rattle.gh_model.proofs.heaps.BuiltHeap.{models_are_built}
use Rattle.gh_model.proofs.laws.models_are_built.Goals as goal

pub returns : goal.returns
returns c = models_are_built
