use Rattle.gh_trace.proofs.Calls.{entries_are_one}
use Rattle.gh_trace.proofs.laws.entries_are_one.Goals as goal

pub returns : goal.returns
returns c = entries_are_one
