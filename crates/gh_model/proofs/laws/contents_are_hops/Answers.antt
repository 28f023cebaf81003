use Rattle.gh_model.proofs.heaps.BuiltHeap.{contents_are_hops}
use Rattle.gh_model.proofs.laws.contents_are_hops.Goals as goal

pub returns : goal.returns
returns c = contents_are_hops
