use Rattle.gh_decide.proofs.Listed.{valid_logs_show_validity}
use Rattle.gh_decide.proofs.laws.valid_logs_show_validity.Goals as goal

pub returns : goal.returns
returns c = valid_logs_show_validity
