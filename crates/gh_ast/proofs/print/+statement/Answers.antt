use Rattle.std.proofs.Common.{[], ◌∷◌, ◌++◌, arith, subst, sym, ap, ◌∙◌}
use Rattle.gh_ast.specs.Plain.{cond_of, assertion_of, statement_of, statements_view, block_of}
use Rattle.gh_ast.specs.Printed.{Adds, reserved, mark, statement_shown, statements_shown, otherwise_shown}
use Rattle.gh_ast.specs.declared.sign.Sign.TheVariants.{BraceOpen, BraceClose}
use Rattle.gh_ast.specs.declared.sign.Keyword.TheVariants.{Else}
use Rattle.gh_ast.proofs.Folds.{statements_of_block, choice_of, loop_of}
use Rattle.gh_ast.proofs.Printing.{and_then, some_otherwise, each_more, each_all, statements_each, choice_head}
use Rattle.gh_ast.proofs.Printing.{loop_shown}
use Rattle.gh_ast.proofs.print.+statement.Goals as goal

pub put_block-returns : goal.put_block-returns
put_block-returns t c =
    subst (λ x. Adds c.args.out.now c.put_sign-2.new.out (mark BraceOpen ∷ statements_shown x ++ mark BraceClose ∷ []))
    (sym (statements_of_block c.args.block.now ∙ ap statements_view (sym c.as_slice.ensures.value)))
    (and_then (and_then c.in_ok-put_sign.ensures c.in_ok-put_statements.ensures) c.in_ok-put_sign-2.ensures)

pub put_otherwise-returns : goal.put_otherwise-returns
put_otherwise-returns t c =
    let b = c.args.block.now in
    let e = statements_of_block b ∙ ap statements_view (sym c.as_slice-statements.ensures.value) in
    subst (λ x. Adds c.args.out.now c.put_block.new.out (otherwise_shown x)) (sym e)
    (some_otherwise c.as_slice-statements.result.now c.is_empty.result c.is_empty.ensures c.if-is_empty.false
    (subst (λ x. Adds c.args.out.now c.put_block.new.out
    (reserved Else ∷ mark BraceOpen ∷ statements_shown x ++ mark BraceClose ∷ [])) e
    (and_then c.in_ok-put_key.ensures c.in_ok-put_block.ensures)))

pub put_statement-returns-in_ok-put_otherwise-in-If : goal.put_statement-returns-in_ok-put_otherwise-in-If
put_statement-returns-in_ok-put_otherwise-in-If t c =
    let i = c.in-If in
    subst (λ x. Adds c.args.out.now c.put_otherwise.new.out (statement_shown x))
    (sym (ap statement_of i.is ∙ choice_of i.test i.taken i.otherwise))
    (and_then (choice_head (cond_of i.test) (block_of i.taken).statements c.in_ok-put_condition-in-If.ensures
    c.in_ok-put_block-in-If.ensures) c.in_ok-put_otherwise-in-If.ensures)

pub put_statement-returns-in_ok-put_block-in-While : goal.put_statement-returns-in_ok-put_block-in-While
put_statement-returns-in_ok-put_block-in-While t c =
    let i = c.in-While in
    subst (λ x. Adds c.args.out.now c.put_block-in-While.new.out (statement_shown x))
    (sym (ap statement_of i.is ∙ loop_of i.span i.test i.invariant i.body))
    (loop_shown i.span (block_of i.body).close (cond_of i.test) (assertion_of i.invariant) (block_of i.body).statements
    c.in_ok-put_condition-in-While.ensures c.in_ok-put_key-in-While.ensures c.in_ok-put_assertion-in-While.ensures
    c.in_ok-put_block-in-While.ensures)

pub put_statements-loop-statement-preserved : goal.put_statements-loop-statement-preserved
put_statements-loop-statement-preserved t c =
    each_more (λ s. statement_shown (statement_of s)) c.args.statements.now c.loop-statement.statement-index
    c.statement-item.result (omega arith) c.statement-item.is
    c.loop-statement.invariant c.in_ok-put_statement.ensures

pub put_statements-returns : goal.put_statements-returns
put_statements-returns t c =
    subst (Adds c.args.out.now c.loop-statement.out) (statements_each c.args.statements.now)
    (each_all (λ s. statement_shown (statement_of s)) c.args.statements.now c.loop-statement.statement-index
    (omega arith) c.loop-statement.invariant)
