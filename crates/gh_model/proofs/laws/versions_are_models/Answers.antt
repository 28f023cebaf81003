use Rattle.gh_model.proofs.reading.AxiomRows.{versions_are_models}
use Rattle.gh_model.proofs.laws.versions_are_models.Goals as goal

pub returns : goal.returns
returns c = versions_are_models
