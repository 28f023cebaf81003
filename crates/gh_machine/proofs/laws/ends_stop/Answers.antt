use Rattle.gh_machine.proofs.Faults.{ends_stop}
use Rattle.gh_machine.proofs.laws.ends_stop.Goals as goal

pub returns : goal.returns
returns c = ends_stop
