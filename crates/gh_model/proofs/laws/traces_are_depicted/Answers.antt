use Rattle.gh_model.proofs.soundness.Depiction.{traces_are_depicted}
use Rattle.gh_model.proofs.laws.traces_are_depicted.Goals as goal

pub returns : goal.returns
returns c = traces_are_depicted
