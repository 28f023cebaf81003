use Rattle.gh_cc.proofs.PartialLemmas.{are_least_enough}
use Rattle.gh_cc.proofs.laws.are_least_enough.Goals as goal

pub returns : goal.returns
returns c = are_least_enough
