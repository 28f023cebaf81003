-- The terms and versions of the examples are counted.
use Rattle.std.proofs.Common.{refl}
use Rattle.gh_symb.specs.Examples.{ExamplesHold, StatesHold}

pub examples_hold : ExamplesHold
examples_hold = record {
  of_nothing = refl;
  with_a_loop = refl;
  with_a_call = refl;
  with_a_new_cell = refl;
  with_alternatives = refl;
  with_a_later_cell = refl;
}

pub states_hold : StatesHold
states_hold = record { used_later = refl; made_later = refl; over_terms = refl }
