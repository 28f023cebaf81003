use Rattle.std.proofs.Common.{◌≡◌}
use Rattle.gh_symb.specs.Formulas.{each}
use Rattle.gh_reduce.specs.Growth.{stated_in}
use Rattle.gh_reduce.specs.Rows.{of_term}
use Rattle.gh_reduce.proofs.rows.add_each_term.Given as goal

abbrev pub invariant-loop-z : goal.invariant-loop-z
invariant-loop-z l = l.ground ≡ stated_in l.initial.ground (each l.z (of_term l.each))
