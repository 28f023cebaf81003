use Rattle.gh_entail.proofs.Sections.{models_decide}
use Rattle.gh_entail.proofs.laws.models_decide.Goals as goal

pub returns : goal.returns
returns c = models_decide
