use Rattle.gh_top.proofs.OneStatus.{statuses_are_one}
use Rattle.gh_top.proofs.laws.statuses_are_one.Goals as goal

pub returns : goal.returns
returns c = statuses_are_one
