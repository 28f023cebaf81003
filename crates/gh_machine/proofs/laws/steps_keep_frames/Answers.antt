use Rattle.gh_machine.proofs.Framed.{steps_keep_frames}
use Rattle.gh_machine.proofs.laws.steps_keep_frames.Goals as goal

pub returns : goal.returns
returns c = steps_keep_frames
