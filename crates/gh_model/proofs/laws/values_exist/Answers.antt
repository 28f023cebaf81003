use Rattle.gh_model.proofs.soundness.TraceValues.{values_exist}
use Rattle.gh_model.proofs.laws.values_exist.Goals as goal

pub returns : goal.returns
returns c = values_exist
