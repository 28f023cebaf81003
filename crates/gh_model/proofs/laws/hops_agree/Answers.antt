use Rattle.gh_model.proofs.heaps.Reachability.{hops_agree}
use Rattle.gh_model.proofs.laws.hops_agree.Goals as goal

pub returns : goal.returns
returns c = hops_agree
