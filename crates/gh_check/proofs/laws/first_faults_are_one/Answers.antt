use Rattle.gh_check.proofs.SectionLemmas.{one}
use Rattle.gh_check.proofs.laws.first_faults_are_one.Goals as goal

pub returns : goal.returns
returns c = one
