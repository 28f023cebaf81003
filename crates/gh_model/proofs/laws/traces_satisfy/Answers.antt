use Rattle.gh_model.proofs.soundness.Abstraction.{traces_satisfy}
use Rattle.gh_model.proofs.laws.traces_satisfy.Goals as goal

pub returns : goal.returns
returns c = traces_satisfy
