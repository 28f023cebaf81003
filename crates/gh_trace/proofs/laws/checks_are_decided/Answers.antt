use Rattle.gh_trace.proofs.Proper.{checks_are_decided}
use Rattle.gh_trace.proofs.laws.checks_are_decided.Goals as goal

pub returns : goal.returns
returns c = checks_are_decided
