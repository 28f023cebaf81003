-- The conditions of the examples are counted.
use Rattle.std.proofs.Common.{refl}
use Rattle.gh_path.specs.Laws.{ExamplesHold}

pub examples_hold : ExamplesHold
examples_hold = record { with_a_loop = refl; with_a_call = refl }
