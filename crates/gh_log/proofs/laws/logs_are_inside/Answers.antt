use Rattle.gh_log.proofs.OutsideLemmas.{logs_are_inside}
use Rattle.gh_log.proofs.laws.logs_are_inside.Goals as goal

pub returns : goal.returns
returns c = logs_are_inside
