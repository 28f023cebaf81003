use Rattle.std.proofs.Common.{arith, subst, sym, ap, ◌∙◌}
use Rattle.gh_ast.specs.Plain.{negation, cond_of}
use Rattle.gh_ast.specs.Printed.{Adds, cond_shown}
use Rattle.gh_ast.proofs.Folds.{not_of}
use Rattle.gh_ast.proofs.Printing.{member_shown, turn, and_then, in_brackets, whole_list, tests_with_signs}
use Rattle.gh_ast.proofs.print.+condition.Goals as goal

pub put_member-returns : goal.put_member-returns
put_member-returns t c =
    in_brackets _ c.is_list_test.result _ c.is_list_test.ensures c.if-not-is_list_test.false
    (and_then (and_then c.in_ok-put_sign.ensures c.in_ok-put_test.ensures) c.in_ok-put_sign-2.ensures)

pub put_test-returns-in_ok-put_sign-in-Not-3 : goal.put_test-returns-in_ok-put_sign-in-Not-3
put_test-returns-in_ok-put_sign-in-Not-3 t c =
    subst (λ x. Adds c.args.out.now c.put_sign-in-Not-2.new.out (cond_shown x))
    (sym (ap cond_of c.in-Not.is ∙ not_of c.in-Not.inner ∙ ap (λ x. negation (cond_of x)) (sym c.deref.ensures)))
    (and_then (and_then (and_then c.in_ok-put_sign-in-Not.ensures c.in_ok-put_sign-in-Not-2.ensures)
    c.in_ok-put_test-in-Not.ensures) c.in_ok-put_sign-in-Not-3.ensures)

pub put_tests-loop-test-preserved : goal.put_tests-loop-test-preserved
put_tests-loop-test-preserved t c =
    turn member_shown c.args.between c.in-Some.rest.now c.loop-test.test-index c.test-item.result (omega arith)
    c.test-item.is
    c.loop-test.invariant c.in_ok-put_sign.ensures c.in_ok-put_member-2.ensures

pub put_tests-returns : goal.put_tests-returns
put_tests-returns t c =
    subst (Adds c.args.out.now c.loop-test.out) (tests_with_signs c.args.between c.args.tests.now)
    (whole_list member_shown c.args.between c.args.tests.now c.in-Some.rest.now c.in-Some.first.now
    c.loop-test.test-index c.in-Some.ensures.cases.0 (omega arith)
    c.in_ok-put_member.ensures c.loop-test.invariant)
