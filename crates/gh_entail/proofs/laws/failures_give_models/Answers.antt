use Rattle.gh_entail.proofs.Improper.{failures_give_models}
use Rattle.gh_entail.proofs.laws.failures_give_models.Goals as goal

pub returns : goal.returns
returns c = failures_give_models
