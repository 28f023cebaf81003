use Rattle.gh_types.proofs.LimitLemmas.{one_found}
use Rattle.gh_types.proofs.limits.long.Goals as goal

pub returns : goal.returns
returns c = one_found _ _ _ c.count_atoms.ensures c.over_limit.ensures
