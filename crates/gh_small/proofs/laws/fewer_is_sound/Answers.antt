use Rattle.gh_small.proofs.SoundLemmas.{sound}
use Rattle.gh_small.proofs.laws.fewer_is_sound.Goals as goal

pub returns : goal.returns
returns c = sound
