use Rattle.std.proofs.Common.{sym, ◌∙◌, ap, subst}
use Rattle.gh_ast.specs.Plain.{statements_view}
use Rattle.gh_ast.specs.Printed.{Adds, locals_shown, statements_shown}
use Rattle.gh_ast.proofs.Folds.{statements_of_block}
use Rattle.gh_ast.proofs.Printing.{and_then}
use Rattle.gh_ast.proofs.print.put_body.Goals as goal

pub returns : goal.returns
returns c =
    let b = c.args.body.now in
    let locals =
    subst (λ x. Adds c.put_sign.new.out c.put_locals.new.out (locals_shown x)) c.as_slice.ensures.value
    c.in_ok-put_locals.ensures in
    let statements = subst (λ x. Adds c.put_locals.new.out c.put_statements.new.out (statements_shown x))
    (ap statements_view c.as_slice-2.ensures.value ∙ sym (statements_of_block b.block))
    c.in_ok-put_statements.ensures in
    and_then (and_then (and_then c.in_ok-put_sign.ensures locals) statements) c.in_ok-put_sign-2.ensures
