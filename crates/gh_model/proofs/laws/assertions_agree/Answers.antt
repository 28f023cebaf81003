use Rattle.gh_model.proofs.heaps.Agreement.{assertions_agree}
use Rattle.gh_model.proofs.laws.assertions_agree.Goals as goal

pub returns : goal.returns
returns c = assertions_agree
