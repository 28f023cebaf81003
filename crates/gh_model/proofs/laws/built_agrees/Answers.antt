use Rattle.gh_model.proofs.heaps.Agreement.{built_agrees}
use Rattle.gh_model.proofs.laws.built_agrees.Goals as goal

pub returns : goal.returns
returns c = built_agrees
