use Rattle.gh_model.proofs.heaps.HeapSteps.{writes_are_built}
use Rattle.gh_model.proofs.laws.writes_are_built.Goals as goal

pub returns : goal.returns
returns c = writes_are_built
