use Rattle.gh_sat.proofs.MeasureLemmas.{jump_less}
use Rattle.gh_sat.proofs.measure.jumps_leave_less.Goals as goal

pub returns : goal.returns
returns c = jump_less
