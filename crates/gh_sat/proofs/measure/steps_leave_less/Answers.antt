use Rattle.gh_sat.proofs.MeasureLemmas.{step_less}
use Rattle.gh_sat.proofs.measure.steps_leave_less.Goals as goal

pub returns : goal.returns
returns c = step_less
