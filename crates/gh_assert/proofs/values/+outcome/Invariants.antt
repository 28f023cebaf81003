use Rattle.std.proofs.Common.{◌≡◌, drop}
use Rattle.gh_ast.specs.Plain.{conds_view}
use Rattle.gh_assert.specs.Values.{all_outcome, some_outcome}
use Rattle.gh_assert.specs.Stores.{store_of}
use Rattle.gh_assert.proofs.values.+outcome.Given as goal

abbrev pub invariant-outcome_of_all-loop-test : goal.invariant-outcome_of_all-loop-test
invariant-outcome_of_all-loop-test l =
    all_outcome (store_of l.store) l.heap (conds_view (drop l.test-index l.tests))
    ≡ all_outcome (store_of l.store) l.heap (conds_view l.tests)

abbrev pub invariant-outcome_of_some-loop-test : goal.invariant-outcome_of_some-loop-test
invariant-outcome_of_some-loop-test l =
    some_outcome (store_of l.store) l.heap (conds_view (drop l.test-index l.tests))
    ≡ some_outcome (store_of l.store) l.heap (conds_view l.tests)
