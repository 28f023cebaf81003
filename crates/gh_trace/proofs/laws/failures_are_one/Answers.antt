use Rattle.gh_trace.proofs.Failures.{failures_are_one}
use Rattle.gh_trace.proofs.laws.failures_are_one.Goals as goal

pub returns : goal.returns
returns c = failures_are_one
