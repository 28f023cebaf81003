use Rattle.gh_trace.proofs.Calls.{parts_are_replaced}
use Rattle.gh_trace.proofs.laws.parts_are_replaced.Goals as goal

pub returns : goal.returns
returns c = parts_are_replaced
