use Rattle.gh_entail.proofs.Witnesses.{witnesses_exist}
use Rattle.gh_entail.proofs.laws.witnesses_exist.Goals as goal

pub returns : goal.returns
returns c = witnesses_exist
