use Rattle.std.proofs.Common.{refl}
use Rattle.gh_symb.proofs.passed.PathSoFar.meet.Goals as goal

pub returns : goal.returns
returns c = record { start = refl; learns = c.in_ok-learn.ensures; states = c.in_ok-push.ensures.items; steps = refl }
