use Rattle.gh_ast.proofs.Printing.{and_then, some_targets}
use Rattle.gh_ast.proofs.print.put_targets.Goals as goal

pub returns : goal.returns
returns c =
    some_targets c.args.targets.now c.is_empty.result c.is_empty.ensures c.if-is_empty.false
    (and_then c.in_ok-put_names.ensures c.in_ok-put_sign.ensures)
