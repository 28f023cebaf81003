use Rattle.std.proofs.Common.{refl}
use Rattle.gh_top.specs.declared.status.Status.TheVariants.{Refuted}
use Rattle.gh_top.proofs.FailedRuns.{failed_run}
use Rattle.gh_top.proofs.laws.failed_runs_refute.Goals as goal

pub returns : goal.returns
returns c words files f x u n P asks given valid = failed_run words files Refuted u f x n P asks given refl valid
