use Rattle.std.proofs.Common.{◌≡◌, ◌++◌}
use Rattle.gh_grass.specs.Claims.{ground_formula_list}
use Rattle.gh_symb.specs.Formulas.{each}
use Rattle.gh_reduce.specs.Rows.{of_term}
use Rattle.gh_reduce.proofs.rows.push_each_term.Given as goal

abbrev pub invariant-loop-z : goal.invariant-loop-z
invariant-loop-z l =
    ground_formula_list l.members.items ≡ ground_formula_list l.initial.members.items ++ each l.z (of_term l.each)
