use Rattle.gh_session.proofs.Alike.{essences_decide}
use Rattle.gh_session.proofs.laws.essences_decide.Goals as goal

pub returns : goal.returns
returns c = essences_decide
