use Rattle.gh_small.proofs.FoundLemmas.{found_is_exact}
use Rattle.gh_small.proofs.laws.found_is_exact.Goals as goal

pub returns : goal.returns
returns c = found_is_exact
