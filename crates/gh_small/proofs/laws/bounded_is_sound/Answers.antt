use Rattle.gh_small.proofs.ModelLemmas.{bounded_sound}
use Rattle.gh_small.proofs.laws.bounded_is_sound.Goals as goal

pub returns : goal.returns
returns c = bounded_sound
