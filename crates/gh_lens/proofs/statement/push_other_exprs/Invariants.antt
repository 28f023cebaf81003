use Rattle.std.proofs.Common.{◌≡◌, ◌++◌, drop, map}
use Rattle.gh_lens.specs.Statements.{others_text, expr_text}
use Rattle.gh_lens.proofs.statement.push_other_exprs.Given as goal

abbrev pub invariant-loop-expr : goal.invariant-loop-expr
invariant-loop-expr l =
    l.text ++ others_text (map expr_text (drop l.expr-index l.exprs))
    ≡ l.initial.text ++ others_text (map expr_text l.exprs)
