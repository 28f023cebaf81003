use Rattle.gh_model.proofs.heaps.StructureSteps.{calls_are_represented}
use Rattle.gh_model.proofs.laws.calls_are_represented.Goals as goal

pub returns : goal.returns
returns c = calls_are_represented
