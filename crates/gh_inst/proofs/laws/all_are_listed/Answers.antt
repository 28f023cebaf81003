use Rattle.gh_inst.proofs.ListedLemmas.{all_are_listed}
use Rattle.gh_inst.proofs.laws.all_are_listed.Goals as goal

pub returns : goal.returns
returns c = all_are_listed
