use Rattle.gh_sat.proofs.MeasureLemmas.{units_assigned}
use Rattle.gh_sat.proofs.measure.units_are_assigned.Goals as goal

pub returns : goal.returns
returns c = units_assigned
