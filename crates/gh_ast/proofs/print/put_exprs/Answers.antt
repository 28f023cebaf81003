use Rattle.std.proofs.Common.{arith}
use Rattle.gh_ast.specs.declared.sign.Sign.TheVariants.{Comma}
use Rattle.gh_ast.specs.Printed.{expr_shown}
use Rattle.gh_ast.proofs.Printing.{turn}
use Rattle.gh_ast.proofs.print.put_exprs.Goals as goal

pub loop-expr-preserved : goal.loop-expr-preserved
loop-expr-preserved c =
    turn expr_shown Comma c.in-Some.rest.now c.loop-expr.expr-index c.expr-item.result (omega arith) c.expr-item.is
    c.loop-expr.invariant c.in_ok-put_sign.ensures c.in_ok-put_expr-2.ensures
