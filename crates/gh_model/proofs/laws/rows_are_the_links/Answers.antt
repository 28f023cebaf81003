use Rattle.gh_model.proofs.heaps.HeapAxioms.{rows_are_the_links}
use Rattle.gh_model.proofs.laws.rows_are_the_links.Goals as goal

pub returns : goal.returns
returns c = rows_are_the_links
