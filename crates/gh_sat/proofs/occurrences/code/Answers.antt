use Rattle.std.proofs.Common.{◌<◌, arith}
use Rattle.gh_sat.proofs.ListLemmas.{lt_le}
use Rattle.gh_sat.proofs.occurrences.code.Goals as goal

pub overflow_mul-result : goal.overflow_mul-result
overflow_mul-result c =
    let b : c.number.result < 4294967294 = lt_le c.number.ensures.below c.requires.small in
    omega arith

pub overflow_add-result : goal.overflow_add-result
overflow_add-result c =
    let b : c.number.result < 4294967294 = lt_le c.number.ensures.below c.requires.small in
    omega arith
