use Rattle.gh_model.proofs.reading.Classes.{classes_are_models}
use Rattle.gh_model.proofs.laws.classes_are_models.Goals as goal

pub returns : goal.returns
returns c = classes_are_models
