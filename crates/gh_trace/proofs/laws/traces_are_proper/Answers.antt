use Rattle.gh_trace.proofs.Proper.{traces_are_proper}
use Rattle.gh_trace.proofs.laws.traces_are_proper.Goals as goal

pub returns : goal.returns
returns c = traces_are_proper
