use Rattle.std.proofs.Common.{◌≡◌, ◌↔◌, map, drop}
use Rattle.gh_ast.specs.Plain.{cond_of}
use Rattle.gh_session.proofs.same.+any_test.Given as goal

abbrev pub invariant-are_same_tests-loop-one : goal.invariant-are_same_tests-loop-one
invariant-are_same_tests-loop-one l =
    (map cond_of (drop l.one-index l.some) ≡ map cond_of l.left) ↔ (map cond_of l.some ≡ map cond_of l.others)
