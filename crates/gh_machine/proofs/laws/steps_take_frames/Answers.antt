use Rattle.gh_machine.proofs.Taken.{steps_take_frames}
use Rattle.gh_machine.proofs.laws.steps_take_frames.Goals as goal

pub returns : goal.returns
returns c = steps_take_frames
