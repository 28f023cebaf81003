use Rattle.gh_model.proofs.heaps.HeapSteps.{next_is_successor}
use Rattle.gh_model.proofs.laws.next_is_successor.Goals as goal

pub returns : goal.returns
returns c = next_is_successor
