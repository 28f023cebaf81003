use Rattle.gh_run.proofs.OneReport.{reports_are_one}
use Rattle.gh_run.proofs.laws.reports_are_one.Goals as goal

pub returns : goal.returns
returns c = reports_are_one
