use Rattle.gh_machine.proofs.TypedFits.{typed_fit}
use Rattle.gh_machine.proofs.laws.typed_fit.Goals as goal

pub returns : goal.returns
returns c = typed_fit
