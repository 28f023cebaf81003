use Rattle.gh_inst.proofs.OnceLemmas.{instances_differ}
use Rattle.gh_inst.proofs.laws.each_is_listed_once.Goals as goal

pub returns : goal.returns
returns c = instances_differ
