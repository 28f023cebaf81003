use Rattle.std.proofs.Common.{arith, subst, sym, ap, ◌∙◌}
use Rattle.gh_ast.specs.Plain.{cases, cond_of, assertion_of}
use Rattle.gh_ast.specs.declared.sign.Sign.TheVariants.{Star}
use Rattle.gh_ast.specs.Printed.{Adds, assertion_shown}
use Rattle.gh_ast.proofs.Folds.{cases_of}
use Rattle.gh_ast.proofs.Printing.{item_shown, turn, and_then, in_brackets, whole_list, formulas_with_signs}
use Rattle.gh_ast.proofs.Printing.{cases_shown}
use Rattle.gh_ast.proofs.print.+formula.Goals as goal

pub put_assertion-returns-in_ok-put_part-in-Cases-2 : goal.put_assertion-returns-in_ok-put_part-in-Cases-2
put_assertion-returns-in_ok-put_part-in-Cases-2 t c =
    subst (λ x. Adds c.args.out.now c.put_part-in-Cases.new.out (assertion_shown x))
    (sym (ap assertion_of c.in-Cases.is ∙ cases_of c.in-Cases.test c.in-Cases.yes c.in-Cases.no
    ∙ ap (λ x. cases (cond_of c.in-Cases.test) (assertion_of x) (assertion_of c.in-Cases.no.value))
    (sym c.deref.ensures)
    ∙ ap (λ x. cases (cond_of c.in-Cases.test) (assertion_of c.deref.result.now) (assertion_of x))
    (sym c.deref-in-Cases.ensures)))
    (cases_shown (cond_of c.in-Cases.test) (assertion_of c.deref.result.now) (assertion_of c.deref-in-Cases.result.now)
    c.in_ok-put_condition-in-Cases.ensures c.in_ok-put_part-in-Cases.ensures c.in_ok-put_key-in-Cases.ensures
    c.in_ok-put_part-in-Cases-2.ensures)

pub put_item-returns : goal.put_item-returns
put_item-returns t c =
    in_brackets _ c.is_star_formula.result _ c.is_star_formula.ensures c.if-not-is_star_formula.false
    (and_then (and_then c.in_ok-put_sign.ensures c.in_ok-put_assertion.ensures) c.in_ok-put_sign-2.ensures)

pub put_items-loop-item-preserved : goal.put_items-loop-item-preserved
put_items-loop-item-preserved t c =
    turn item_shown Star c.in-Some.rest.now c.loop-item.item-index c.item-item.result (omega arith) c.item-item.is
    c.loop-item.invariant c.in_ok-put_sign.ensures c.in_ok-put_item-2.ensures

pub put_items-returns : goal.put_items-returns
put_items-returns t c =
    subst (Adds c.args.out.now c.loop-item.out) (formulas_with_signs c.args.items.now)
    (whole_list item_shown Star c.args.items.now c.in-Some.rest.now c.in-Some.first.now c.loop-item.item-index
    c.in-Some.ensures.cases.0 (omega arith)
    c.in_ok-put_item.ensures c.loop-item.invariant)

pub put_part-returns : goal.put_part-returns
put_part-returns t c =
    and_then (and_then c.in_ok-put_sign.ensures c.in_ok-put_assertion.ensures) c.in_ok-put_sign-2.ensures
