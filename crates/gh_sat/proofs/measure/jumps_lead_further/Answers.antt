use Rattle.gh_sat.proofs.MeasureLemmas.{jump_further}
use Rattle.gh_sat.proofs.measure.jumps_lead_further.Goals as goal

pub returns : goal.returns
returns c = jump_further
