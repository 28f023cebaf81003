use Rattle.gh_parse.proofs.Rules.{by, told, after}
use Rattle.gh_parse.proofs.Exits.{exit}
use Rattle.gh_parse.proofs.StatementViews.{return_view}
use Rattle.gh_parse.proofs.StatementForms.{make_return, part_return, return_spelled}
use Rattle.gh_parse.proofs.cursor.Parser.return_statement.Goals as goal

pub returns-in_err-values : goal.returns-in_err-values
returns-in_err-values c =
    exit _ _ _ (λ s. by make_return (told _ _ _ c.in_ok-span.ensures part_return) (after _ c.in_ok-span.ensures s))
    c.in_err-values.ensures c.from_residual-in_err-values.ensures.1

pub returns : goal.returns
returns c = rw return_view (return_spelled c.in_ok-span.ensures c.in_ok-values.ensures)
