use Rattle.std.proofs.Common.{◌≡◌}
use Rattle.gh_symb.specs.Formulas.{each}
use Rattle.gh_reduce.specs.Growth.{stated_in}
use Rattle.gh_reduce.specs.Rows.{of_pair}
use Rattle.gh_reduce.proofs.rows.add_pairs_of.Given as goal

abbrev pub invariant-loop-v : goal.invariant-loop-v
invariant-loop-v l = l.ground ≡ stated_in l.initial.ground (each l.v (of_pair l.each l.z))
