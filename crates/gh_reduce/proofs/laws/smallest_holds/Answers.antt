use Rattle.std.proofs.Common.{refl}
use Rattle.gh_reduce.proofs.laws.smallest_holds.Goals as goal

pub returns : goal.returns
returns c = refl
