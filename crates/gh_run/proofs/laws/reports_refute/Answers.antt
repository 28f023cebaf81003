use Rattle.gh_run.proofs.Refuting.{reports_refute}
use Rattle.gh_run.proofs.laws.reports_refute.Goals as goal

pub returns : goal.returns
returns c = reports_refute
