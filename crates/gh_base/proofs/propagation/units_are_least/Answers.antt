use Rattle.gh_base.proofs.UnitLemmas.{least}
use Rattle.gh_base.proofs.propagation.units_are_least.Goals as goal

pub returns : goal.returns
returns c = least
