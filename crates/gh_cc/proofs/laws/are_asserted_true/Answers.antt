use Rattle.gh_cc.proofs.PartialLemmas.{are_asserted_true}
use Rattle.gh_cc.proofs.laws.are_asserted_true.Goals as goal

pub returns : goal.returns
returns c = are_asserted_true
