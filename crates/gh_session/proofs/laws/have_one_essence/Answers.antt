use Rattle.gh_session.proofs.Alike.{have_one_essence}
use Rattle.gh_session.proofs.laws.have_one_essence.Goals as goal

pub returns : goal.returns
returns c = have_one_essence
