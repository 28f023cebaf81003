use Rattle.gh_parse.specs.Stops.{any}
use Rattle.gh_parse.proofs.Rules.{by, first, next, begins_not, ends_seq}
use Rattle.gh_parse.proofs.Exits.{exit}
use Rattle.gh_parse.proofs.Folds.{test_of-compare}
use Rattle.gh_parse.proofs.ValueForms.{exact_expr, ends_expr}
use Rattle.gh_parse.proofs.TestForms.{compared, make_equation, part_equation, exact_comparison, ends_comparison}
use Rattle.gh_parse.proofs.cursor.Parser.equation.Goals as goal

pub returns-in_err-left : goal.returns-in_err-left
returns-in_err-left c =
    exit _ _ _
    (λ s. by make_equation (λ xs r d h. part_equation xs r (begins_not c.requires.plain d)
    (begins_not c.requires.bare d) h) (first (ends_seq ends_comparison (ends_expr _)) s))
    c.in_err-left.ensures c.from_residual.ensures.1

pub returns-in_err-equal : goal.returns-in_err-equal
returns-in_err-equal c =
    exit _ _ _
    (λ s. by make_equation (λ xs r d h. part_equation xs r (begins_not c.requires.plain d)
    (begins_not c.requires.bare d) h)
    (next exact_expr (any c.in_ok-left.ensures) (first (ends_expr _) s))) c.in_err-equal.ensures
    c.from_residual-in_err-equal.ensures.1

pub returns-in_err-right : goal.returns-in_err-right
returns-in_err-right c =
    exit _ _ _
    (λ s. by make_equation (λ xs r d h. part_equation xs r (begins_not c.requires.plain d)
    (begins_not c.requires.bare d) h)
    (next exact_expr (any c.in_ok-left.ensures) (next exact_comparison (any c.in_ok-equal.ensures) s)))
    c.in_err-right.ensures c.from_residual-in_err-right.ensures.1

pub returns : goal.returns
returns c =
    rw (test_of-compare c.in_ok-left.left c.in_ok-equal.equal c.in_ok-right.right)
    (compared c.in_ok-equal.equal c.in_ok-left.ensures c.in_ok-equal.ensures c.in_ok-right.ensures)
