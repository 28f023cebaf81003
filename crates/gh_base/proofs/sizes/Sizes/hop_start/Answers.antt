use Rattle.std.proofs.Common.{arith}
use Rattle.gh_base.proofs.NumberLemmas.{cube_below}
use Rattle.gh_base.proofs.sizes.Sizes.hop_start.Goals as goal

pub returns-clause-bound : goal.returns-clause-bound
returns-clause-bound c =
    let s = c.args.self in omega (arith, cube_below s.versions s.terms (omega arith) (omega arith))
