use Rattle.gh_model.proofs.reading.AxiomRows.{instances_are_kept}
use Rattle.gh_model.proofs.laws.instances_are_kept.Goals as goal

pub returns : goal.returns
returns c = instances_are_kept
