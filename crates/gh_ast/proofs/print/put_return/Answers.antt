use Rattle.gh_ast.proofs.Printing.{and_then}
use Rattle.gh_ast.proofs.print.put_return.Goals as goal

pub returns : goal.returns
returns c = and_then (and_then c.in_ok-put_key.ensures c.in_ok-put_exprs.ensures) c.in_ok-put_sign.ensures
