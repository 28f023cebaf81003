use Rattle.std.proofs.Common.{arith}
use Rattle.gh_ast.specs.Plain.{cond_of}
use Rattle.gh_ast.specs.Occurrences.{in_expr, in_cond}
use Rattle.gh_ast.proofs.PlainLemmas.{test_of-Compare, test_of-Not, test_of-And, test_of-Or}
use Rattle.gh_types.proofs.FirstLemmas.{first_append, first_list, first_more, first_all, in_tests_flat}
use Rattle.gh_types.proofs.scope.Scope.+any_test.Goals as goal

pub in_cond-returns-in-Compare : goal.in_cond-returns-in-Compare
in_cond-returns-in-Compare t c =
    rw (c.in-Compare.is, test_of-Compare)
    (first_append _ (in_expr c.in-Compare.left) (in_expr c.in-Compare.right) _ _ _ c.earlier.ensures c.in_expr.ensures
    c.in_expr-in-Compare.ensures)

pub in_cond-returns-in-Not : goal.in_cond-returns-in-Not
in_cond-returns-in-Not t c = rw (c.in-Not.is, test_of-Not, ← c.deref.ensures) c.in_cond.ensures

pub in_cond-returns-in-And : goal.in_cond-returns-in-And
in_cond-returns-in-And t c = rw (c.in-And.is, test_of-And, ← c.as_slice.ensures.value) c.in_conds.ensures

pub in_cond-returns-in-Or : goal.in_cond-returns-in-Or
in_cond-returns-in-Or t c = rw (c.in-Or.is, test_of-Or, ← c.as_slice-in-Or.ensures.value) c.in_conds-in-Or.ensures

pub in_conds-loop-test-preserved : goal.in_conds-loop-test-preserved
in_conds-loop-test-preserved t c =
    first_more _ (λ x. in_cond (cond_of x)) c.args.tests.now c.loop-test.test-index c.test-item.result _ _ _
    (omega arith) c.test-item.is c.earlier-first.ensures c.loop-test.invariant c.in_cond.ensures

pub in_conds-returns : goal.in_conds-returns
in_conds-returns t c =
    first_list _ _ _ _ (in_tests_flat c.args.tests.now)
    (first_all _ (λ x. in_cond (cond_of x)) c.args.tests.now c.loop-test.test-index _ (omega arith)
    c.loop-test.invariant)
