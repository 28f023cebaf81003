use Rattle.gh_decide.proofs.Rules.{typed_is_good}
use Rattle.gh_decide.proofs.laws.typed_is_good.Goals as goal

pub returns : goal.returns
returns c = typed_is_good
