use Rattle.gh_model.proofs.heaps.StructureSteps.{writes_are_represented}
use Rattle.gh_model.proofs.laws.writes_are_represented.Goals as goal

pub returns : goal.returns
returns c = writes_are_represented
