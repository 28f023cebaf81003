use Rattle.gh_entail.proofs.Failing.{models_fail}
use Rattle.gh_entail.proofs.laws.models_fail.Goals as goal

pub returns : goal.returns
returns c = models_fail
