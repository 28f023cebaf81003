use Rattle.gh_ast.proofs.Printing.{and_then, some_locals}
use Rattle.gh_ast.proofs.print.put_locals.Goals as goal

pub returns : goal.returns
returns c =
    some_locals c.args.locals.now c.is_empty.result c.is_empty.ensures c.if-is_empty.false
    (and_then (and_then c.in_ok-put_key.ensures c.in_ok-put_names.ensures)
    (and_then (and_then c.in_ok-put_sign.ensures c.in_ok-put_key-2.ensures) c.in_ok-put_sign-2.ensures))
