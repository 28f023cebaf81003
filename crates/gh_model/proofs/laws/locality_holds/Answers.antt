use Rattle.gh_model.proofs.locality.Traces.{locality_holds}
use Rattle.gh_model.proofs.laws.locality_holds.Goals as goal

pub returns : goal.returns
returns c = locality_holds
