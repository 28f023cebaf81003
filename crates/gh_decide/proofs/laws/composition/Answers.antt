use Rattle.gh_decide.proofs.Compose.{composition}
use Rattle.gh_decide.proofs.laws.composition.Goals as goal

pub returns : goal.returns
returns c = composition
