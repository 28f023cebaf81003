use Rattle.std.proofs.Common.{◌≡◌, ◌+◌, ◌≤◌, drop}
use Rattle.gh_ast.specs.Plain.{conds_view}
use Rattle.gh_ast.specs.Limits.{reported, conds_atoms}
use Rattle.gh_types.proofs.counts.+test_count.Given as goal

abbrev pub invariant-count_in_tests-loop-test : goal.invariant-count_in_tests-loop-test
invariant-count_in_tests-loop-test l = record {
  total : reported (l.sum + conds_atoms (conds_view (drop l.test-index l.tests)))
      ≡ reported (conds_atoms (conds_view l.tests));
  within : l.sum ≤ 4294967295;
}
