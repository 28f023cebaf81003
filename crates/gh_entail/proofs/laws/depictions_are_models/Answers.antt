use Rattle.gh_entail.proofs.Depictions.{depictions_are_models}
use Rattle.gh_entail.proofs.laws.depictions_are_models.Goals as goal

pub returns : goal.returns
returns c = depictions_are_models
