-- The terms of the examples, by computation.
use Rattle.std.proofs.Common.{refl}
use Rattle.gh_entail.specs.Examples.{ExamplesHold}

pub examples_hold : ExamplesHold
examples_hold = record { joined_terms = refl; not_empty_terms = refl; nowhere_terms = refl }
