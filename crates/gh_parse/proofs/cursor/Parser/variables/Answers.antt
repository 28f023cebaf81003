use Rattle.gh_parse.proofs.Exits.{exit, exit_missing}
use Rattle.gh_parse.proofs.QuestionForms.{none_declared, declared_variables, stops_at_once, stops_declaration}
use Rattle.gh_parse.proofs.cursor.Parser.variables.Goals as goal

pub returns-then-is_key : goal.returns-then-is_key
returns-then-is_key c = none_declared c.if-is_key.ensures.2 c.new-variables.ensures.items

pub returns-in_err-expect_key : goal.returns-in_err-expect_key
returns-in_err-expect_key c =
    exit_missing _ _ _ _ (λ n. stops_at_once c.if-is_key.ensures n) c.in_err-expect_key.ensures
    c.from_residual.ensures.1

pub returns-in_err-declaration : goal.returns-in_err-declaration
returns-in_err-declaration c =
    exit _ _ _ (λ s. stops_declaration _ c.if-is_key.ensures c.in_ok-expect_key.ensures s) c.in_err-declaration.ensures
    c.from_residual-in_err-declaration.ensures.1

pub returns : goal.returns
returns c = declared_variables c.in_ok-expect_key.ensures c.new-variables.ensures.items c.in_ok-declaration.ensures
