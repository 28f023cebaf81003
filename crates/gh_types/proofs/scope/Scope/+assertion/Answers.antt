use Rattle.std.proofs.Common.{◌++◌, arith}
use Rattle.gh_ast.specs.Plain.{cond_of, assertion_of}
use Rattle.gh_ast.specs.Occurrences.{in_operand, in_cond, in_assertion}
use Rattle.gh_ast.proofs.PlainLemmas.{formula_of-Pure, formula_of-PointsTo, formula_of-Acc, formula_of-Lseg}
use Rattle.gh_ast.proofs.PlainLemmas.{formula_of-Star, formula_of-Cases}
use Rattle.gh_types.proofs.FirstLemmas.{first_one, first_cons, first_append, first_list, first_more, first_all}
use Rattle.gh_types.proofs.FirstLemmas.{in_formulas_flat}
use Rattle.gh_types.proofs.scope.Scope.+assertion.Goals as goal

pub in_assertion-returns-in-Pure : goal.in_assertion-returns-in-Pure
in_assertion-returns-in-Pure t c =
    rw (c.in-Pure.is, formula_of-Pure)
    (first_append _ (in_operand c.in-Pure.left) (in_operand c.in-Pure.right) _ _ _ c.earlier.ensures
    c.in_operand.ensures c.in_operand-in-Pure.ensures)

pub in_assertion-returns-in-PointsTo : goal.in_assertion-returns-in-PointsTo
in_assertion-returns-in-PointsTo t c =
    rw (c.in-PointsTo.is, formula_of-PointsTo)
    (first_cons _ c.in-PointsTo.at (in_operand c.in-PointsTo.to) _ _ _ c.earlier-in-PointsTo.ensures
    c.in_occurrence.ensures c.in_operand-in-PointsTo.ensures)

pub in_assertion-returns-in-Acc : goal.in_assertion-returns-in-Acc
in_assertion-returns-in-Acc t c = rw (c.in-Acc.is, formula_of-Acc) (first_one _ _ _ c.in_occurrence-in-Acc.ensures)

pub in_assertion-returns-in-Lseg : goal.in_assertion-returns-in-Lseg
in_assertion-returns-in-Lseg t c =
    rw (c.in-Lseg.is, formula_of-Lseg)
    (first_append _ (in_operand c.in-Lseg.from) (in_operand c.in-Lseg.to) _ _ _ c.earlier-in-Lseg.ensures
    c.in_operand-in-Lseg.ensures c.in_operand-in-Lseg-2.ensures)

pub in_assertion-returns-in-Star : goal.in_assertion-returns-in-Star
in_assertion-returns-in-Star t c =
    rw (c.in-Star.is, formula_of-Star, ← c.as_slice.ensures.value) c.in_assertions.ensures

pub in_assertion-returns-in-Cases : goal.in_assertion-returns-in-Cases
in_assertion-returns-in-Cases t c =
    let tests = in_cond (cond_of c.in-Cases.test) in
    let first = in_assertion (assertion_of c.deref.result.now) in
    let second = in_assertion (assertion_of c.deref-in-Cases.result.now) in
    rw (c.in-Cases.is, formula_of-Cases, ← c.deref.ensures, ← c.deref-in-Cases.ensures)
    (first_append _ (tests ++ first) second _ _ _ c.earlier-in-Cases.ensures
    (first_append _ tests first _ _ _ c.earlier-first.ensures c.in_cond.ensures c.in_assertion.ensures)
    c.in_assertion-in-Cases.ensures)

pub in_assertions-loop-assertion-preserved : goal.in_assertions-loop-assertion-preserved
in_assertions-loop-assertion-preserved t c =
    first_more _ (λ x. in_assertion (assertion_of x)) c.args.assertions.now c.loop-assertion.assertion-index
    c.assertion-item.result _ _ _ (omega arith) c.assertion-item.is c.earlier-first.ensures
    c.loop-assertion.invariant c.in_assertion.ensures

pub in_assertions-returns : goal.in_assertions-returns
in_assertions-returns t c =
    first_list _ _ _ _ (in_formulas_flat c.args.assertions.now)
    (first_all _ (λ x. in_assertion (assertion_of x)) c.args.assertions.now c.loop-assertion.assertion-index _
    (omega arith) c.loop-assertion.invariant)
