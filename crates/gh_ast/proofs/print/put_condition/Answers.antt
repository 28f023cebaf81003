use Rattle.gh_ast.proofs.Printing.{and_then}
use Rattle.gh_ast.proofs.print.put_condition.Goals as goal

pub returns : goal.returns
returns c =
    and_then (and_then (and_then c.in_ok-put_key.ensures c.in_ok-put_sign.ensures) c.in_ok-put_test.ensures)
    c.in_ok-put_sign-2.ensures
