use Rattle.std.proofs.Common.{length}
use Rattle.gh_lens.proofs.story.+steps_told.Given as goal

abbrev pub decreases-steps_told : goal.decreases-steps_told
decreases-steps_told l = length l.steps.now
