use Rattle.gh_machine.proofs.Faults.{faults_stop}
use Rattle.gh_machine.proofs.laws.faults_stop.Goals as goal

pub returns : goal.returns
returns c = faults_stop
