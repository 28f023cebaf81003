use Rattle.gh_entail.proofs.Examples.{examples_hold}
use Rattle.gh_entail.proofs.laws.examples_hold.Goals as goal

pub returns : goal.returns
returns c = examples_hold
