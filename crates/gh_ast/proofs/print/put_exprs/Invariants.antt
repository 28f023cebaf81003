use Rattle.std.proofs.Common.{take}
use Rattle.gh_ast.specs.declared.sign.Sign.TheVariants.{Comma}
use Rattle.gh_ast.specs.Printed.{Adds, followed, expr_shown}
use Rattle.gh_ast.proofs.print.put_exprs.Given as goal

abbrev pub invariant-loop-expr : goal.invariant-loop-expr
invariant-loop-expr l = Adds l.initial.out l.out (followed expr_shown Comma (take l.expr-index l.rest))
