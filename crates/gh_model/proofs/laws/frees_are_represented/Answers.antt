use Rattle.gh_model.proofs.heaps.StructureSteps.{frees_are_represented}
use Rattle.gh_model.proofs.laws.frees_are_represented.Goals as goal

pub returns : goal.returns
returns c = frees_are_represented
