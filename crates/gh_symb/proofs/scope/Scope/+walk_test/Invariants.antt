use Rattle.std.proofs.Common.{◌≡◌, drop}
use Rattle.gh_ast.specs.Plain.{conds_view}
use Rattle.gh_path.specs.Terms.{conds_walked}
use Rattle.gh_symb.specs.Tables.{state}
use Rattle.gh_symb.proofs.scope.Scope.+walk_test.Given as goal

abbrev pub invariant-walk_tests-loop-test : goal.invariant-walk_tests-loop-test
invariant-walk_tests-loop-test l =
    conds_walked (conds_view (drop l.test-index l.tests)) (state l.kinds l.self l.version)
    ≡ conds_walked (conds_view l.tests) (state l.initial.kinds l.initial.self l.version)
