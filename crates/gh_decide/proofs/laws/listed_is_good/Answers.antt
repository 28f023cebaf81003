use Rattle.gh_decide.proofs.Valid.{listed_is_good}
use Rattle.gh_decide.proofs.laws.listed_is_good.Goals as goal

pub returns : goal.returns
returns c = listed_is_good
