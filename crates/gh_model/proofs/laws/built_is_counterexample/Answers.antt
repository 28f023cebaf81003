use Rattle.gh_model.proofs.building.Drawings.{built_is_counterexample}
use Rattle.gh_model.proofs.laws.built_is_counterexample.Goals as goal

pub returns : goal.returns
returns c = built_is_counterexample
