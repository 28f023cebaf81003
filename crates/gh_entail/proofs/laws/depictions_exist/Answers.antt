use Rattle.gh_entail.proofs.Depictions.{depictions_exist}
use Rattle.gh_entail.proofs.laws.depictions_exist.Goals as goal

pub returns : goal.returns
returns c = depictions_exist
