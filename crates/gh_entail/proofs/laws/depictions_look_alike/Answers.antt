use Rattle.gh_entail.proofs.Depictions.{depictions_look_alike}
use Rattle.gh_entail.proofs.laws.depictions_look_alike.Goals as goal

pub returns : goal.returns
returns c = depictions_look_alike
