use Rattle.gh_inst.proofs.OnceLemmas.{instances_counted}
use Rattle.gh_inst.proofs.laws.instances_are_counted.Goals as goal

pub returns : goal.returns
returns c = instances_counted
