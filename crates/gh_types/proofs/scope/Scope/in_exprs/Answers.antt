use Rattle.std.proofs.Common.{arith}
use Rattle.gh_ast.specs.Occurrences.{in_expr}
use Rattle.gh_types.proofs.FirstLemmas.{first_more, first_all}
use Rattle.gh_types.proofs.scope.Scope.in_exprs.Goals as goal

pub loop-expr-preserved : goal.loop-expr-preserved
loop-expr-preserved c =
    first_more _ in_expr c.args.exprs.now c.loop-expr.expr-index c.expr-item.result _ _ _ (omega arith) c.expr-item.is
    c.earlier-first.ensures c.loop-expr.invariant c.in_expr.ensures

pub returns : goal.returns
returns c = first_all _ in_expr c.args.exprs.now c.loop-expr.expr-index _ (omega arith) c.loop-expr.invariant
