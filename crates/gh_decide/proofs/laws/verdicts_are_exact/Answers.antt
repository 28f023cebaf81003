use Rattle.gh_decide.proofs.Verdicts.{verdicts_are_exact}
use Rattle.gh_decide.proofs.laws.verdicts_are_exact.Goals as goal

pub returns : goal.returns
returns c = verdicts_are_exact
