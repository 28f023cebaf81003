use Rattle.std.proofs.Common.{refl}
use Rattle.gh_small.proofs.laws.two_are_spelled.Goals as goal

pub returns : goal.returns
returns c = refl
