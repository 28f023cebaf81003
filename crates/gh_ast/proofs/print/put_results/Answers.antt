use Rattle.gh_ast.proofs.Printing.{and_then, some_results}
use Rattle.gh_ast.proofs.print.put_results.Goals as goal

pub returns : goal.returns
returns c =
    some_results c.args.results.now c.is_empty.result c.is_empty.ensures c.if-is_empty.false
    (and_then (and_then (and_then c.in_ok-put_key.ensures c.in_ok-put_sign.ensures) c.in_ok-put_parameters.ensures)
    c.in_ok-put_sign-2.ensures)
