use Rattle.gh_model.proofs.laws.versions_are_built.Goals as goal
use Rattle.gh_model.proofs.locality.BuiltHeaps.{versions_are_built}

pub returns : goal.returns
returns c = versions_are_built
