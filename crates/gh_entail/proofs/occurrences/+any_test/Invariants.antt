use Rattle.std.proofs.Common.{◌≡◌, ◌++◌, map, drop}
use Rattle.gh_ast.specs.Occurrences.{in_conds}
use Rattle.gh_ast.specs.Plain.{conds_view}
use Rattle.gh_entail.proofs.occurrences.+any_test.Given as goal

abbrev pub invariant-add_tests-loop-test : goal.invariant-add_tests-loop-test
invariant-add_tests-loop-test l =
    map (λ o. o.now) l.found.items ++ in_conds (conds_view (drop l.test-index l.tests))
    ≡ map (λ o. o.now) l.initial.found.items ++ in_conds (conds_view l.tests)
