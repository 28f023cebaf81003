use Rattle.gh_symb.proofs.Examples.{states_hold}
use Rattle.gh_symb.proofs.laws.states_hold.Goals as goal

pub returns : goal.returns
returns c = states_hold
