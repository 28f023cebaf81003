use Rattle.gh_model.proofs.heaps.Representation.{representations_exist}
use Rattle.gh_model.proofs.laws.representations_exist.Goals as goal

pub returns : goal.returns
returns c = representations_exist
