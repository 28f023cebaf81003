use Rattle.gh_session.proofs.Alike.{same_counterexamples}
use Rattle.gh_session.proofs.laws.same_counterexamples.Goals as goal

pub returns : goal.returns
returns c = same_counterexamples
