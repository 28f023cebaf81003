use Rattle.gh_ast.specs.declared.Operand.TheVariants as operand
use Rattle.gh_parse.specs.Stops.{any}
use Rattle.gh_parse.proofs.Rules.{first, next}
use Rattle.gh_parse.proofs.Exits.{exit}
use Rattle.gh_parse.proofs.Folds.{formula_of-pure}
use Rattle.gh_parse.proofs.ValueForms.{ends_operand}
use Rattle.gh_parse.proofs.TestForms.{exact_comparison}
use Rattle.gh_parse.proofs.AssertionForms.{in_null, compared_null}
use Rattle.gh_parse.proofs.cursor.Parser.null_item.Goals as goal

pub returns-in_err-equal : goal.returns-in_err-equal
returns-in_err-equal c =
    exit _ _ _ (λ s. in_null c.in_ok-span.ensures (first ends_operand s)) c.in_err-equal.ensures
    c.from_residual-in_err-equal.ensures.1

pub returns-in_err-right : goal.returns-in_err-right
returns-in_err-right c =
    exit _ _ _ (λ s. in_null c.in_ok-span.ensures (next exact_comparison (any c.in_ok-equal.ensures) s))
    c.in_err-right.ensures c.from_residual-in_err-right.ensures.1

pub returns : goal.returns
returns c =
    rw (formula_of-pure (operand.Null c.in_ok-span.span) c.in_ok-equal.equal c.in_ok-right.right)
    (compared_null c.in_ok-equal.equal c.in_ok-span.ensures c.in_ok-equal.ensures c.in_ok-right.ensures)
