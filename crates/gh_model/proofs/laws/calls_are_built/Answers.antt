use Rattle.gh_model.proofs.heaps.HeapSteps.{calls_are_built}
use Rattle.gh_model.proofs.laws.calls_are_built.Goals as goal

pub returns : goal.returns
returns c = calls_are_built
