use Rattle.gh_sat.proofs.MeasureLemmas.{step_further}
use Rattle.gh_sat.proofs.measure.steps_lead_further.Goals as goal

pub returns : goal.returns
returns c = step_further
