use Rattle.gh_model.proofs.soundness.ClauseModels.{traces_give_models}
use Rattle.gh_model.proofs.laws.traces_give_models.Goals as goal

pub returns : goal.returns
returns c = traces_give_models
