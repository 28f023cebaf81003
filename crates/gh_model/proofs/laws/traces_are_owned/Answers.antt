use Rattle.gh_model.proofs.ownership.Traces.{traces_are_owned}
use Rattle.gh_model.proofs.laws.traces_are_owned.Goals as goal

pub returns : goal.returns
returns c = traces_are_owned
