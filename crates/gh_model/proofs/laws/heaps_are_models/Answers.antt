use Rattle.gh_model.proofs.heaps.HeapAxioms.{heaps_are_models}
use Rattle.gh_model.proofs.laws.heaps_are_models.Goals as goal

pub returns : goal.returns
returns c = heaps_are_models
