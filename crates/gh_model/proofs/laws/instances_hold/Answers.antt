use Rattle.gh_model.proofs.reading.AxiomInstances.{instances_hold}
use Rattle.gh_model.proofs.laws.instances_hold.Goals as goal

pub returns : goal.returns
returns c = instances_hold
