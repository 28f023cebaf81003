use Rattle.gh_top.proofs.LogLaws.{logs_are_rechecked}
use Rattle.gh_top.proofs.laws.logs_are_rechecked.Goals as goal

pub returns : goal.returns
returns c = logs_are_rechecked
