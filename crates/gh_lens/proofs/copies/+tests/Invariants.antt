use Rattle.std.proofs.Common.{◌≡◌, map, take}
use Rattle.gh_ast.specs.Plain.{cond_of}
use Rattle.gh_lens.proofs.copies.+tests.Given as goal

abbrev pub invariant-copy_tests-loop-test : goal.invariant-copy_tests-loop-test
invariant-copy_tests-loop-test l = map cond_of l.copies.items ≡ map cond_of (take l.test-index l.tests)
