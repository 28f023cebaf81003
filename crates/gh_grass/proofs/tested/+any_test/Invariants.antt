use Rattle.std.proofs.Common.{◌≡◌, ◌++◌, drop}
use Rattle.gh_ast.specs.Plain.{conds_view}
use Rattle.gh_grass.specs.Bindings.{bound_term}
use Rattle.gh_grass.specs.Claims.{ground_formula_list}
use Rattle.gh_grass.specs.Footprints.{all_tested}
use Rattle.gh_grass.proofs.tested.+any_test.Given as goal

abbrev pub invariant-test_formulas-loop-test : goal.invariant-test_formulas-loop-test
invariant-test_formulas-loop-test l =
    ground_formula_list l.formulas.items ++ all_tested (bound_term l.binding) (conds_view (drop l.test-index l.tests))
    ≡ all_tested (bound_term l.binding) (conds_view l.tests)
