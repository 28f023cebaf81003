use Rattle.gh_model.proofs.heaps.HeapAxioms.{rows_are_the_order}
use Rattle.gh_model.proofs.laws.rows_are_the_order.Goals as goal

pub returns : goal.returns
returns c m = rows_are_the_order m
