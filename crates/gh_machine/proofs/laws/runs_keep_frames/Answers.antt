use Rattle.gh_machine.proofs.Taken.{runs_keep_frames}
use Rattle.gh_machine.proofs.laws.runs_keep_frames.Goals as goal

pub returns : goal.returns
returns c = runs_keep_frames
