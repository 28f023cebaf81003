use Rattle.gh_model.proofs.heaps.BuiltHeap.{built_is_read}
use Rattle.gh_model.proofs.laws.built_is_read.Goals as goal

pub returns : goal.returns
returns c = built_is_read
