use Rattle.gh_base.proofs.UnitLemmas.{sound}
use Rattle.gh_base.proofs.propagation.units_are_sound.Goals as goal

pub returns : goal.returns
returns c = sound
