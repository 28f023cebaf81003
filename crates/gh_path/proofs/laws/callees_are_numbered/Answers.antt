use Rattle.gh_path.proofs.FormLemmas.{callees_are_numbered}
use Rattle.gh_path.proofs.laws.callees_are_numbered.Goals as goal

pub returns : goal.returns
returns c = callees_are_numbered
