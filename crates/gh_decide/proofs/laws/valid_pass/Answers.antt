use Rattle.gh_decide.proofs.Valid.{valid_pass}
use Rattle.gh_decide.proofs.laws.valid_pass.Goals as goal

pub returns : goal.returns
returns c = valid_pass
