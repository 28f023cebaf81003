use Rattle.std.proofs.Common.{◌≡◌, drop}
use Rattle.gh_ast.specs.Plain.{conds_view}
use Rattle.gh_assert.specs.Meaning.{all_true, some_true}
use Rattle.gh_assert.specs.Stores.{store_of}
use Rattle.gh_assert.proofs.meaning.+truth.Given as goal

abbrev pub invariant-are_all_true-loop-test : goal.invariant-are_all_true-loop-test
invariant-are_all_true-loop-test l =
    all_true (store_of l.store) (conds_view (drop l.test-index l.tests))
    ≡ all_true (store_of l.store) (conds_view l.tests)

abbrev pub invariant-is_some_true-loop-test : goal.invariant-is_some_true-loop-test
invariant-is_some_true-loop-test l =
    some_true (store_of l.store) (conds_view (drop l.test-index l.tests))
    ≡ some_true (store_of l.store) (conds_view l.tests)
