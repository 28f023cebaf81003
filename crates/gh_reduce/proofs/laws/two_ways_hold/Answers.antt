use Rattle.std.proofs.Common.{refl}
use Rattle.gh_reduce.proofs.laws.two_ways_hold.Goals as goal

pub returns : goal.returns
returns c = refl
