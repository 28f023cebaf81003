use Rattle.gh_entail.proofs.Reflecting.{failures_are_depicted}
use Rattle.gh_entail.proofs.laws.failures_are_depicted.Goals as goal

pub returns : goal.returns
returns c = failures_are_depicted
