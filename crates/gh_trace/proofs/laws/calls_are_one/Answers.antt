use Rattle.gh_trace.proofs.Calls.{calls_are_one}
use Rattle.gh_trace.proofs.laws.calls_are_one.Goals as goal

pub returns : goal.returns
returns c = calls_are_one
