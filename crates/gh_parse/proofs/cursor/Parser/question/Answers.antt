use Rattle.gh_parse.proofs.Rules.{form}
use Rattle.gh_parse.proofs.Exits.{exit, exit_missing}
use Rattle.gh_parse.proofs.QuestionForms.{make_claims, part_claims, stops_variables, stops_requires, past_word}
use Rattle.gh_parse.proofs.QuestionForms.{question_spelled}
use Rattle.gh_parse.proofs.cursor.Parser.question.Goals as goal

pub returns-in_err-variables : goal.returns-in_err-variables
returns-in_err-variables c = exit _ _ _ (λ s. stops_variables s) c.in_err-variables.ensures c.from_residual.ensures.1

pub returns-in_err-span : goal.returns-in_err-span
returns-in_err-span c =
    exit_missing _ _ _ _ (λ n. stops_requires c.in_ok-variables.ensures n) c.in_err-span.ensures
    c.from_residual-in_err-span.ensures.1

pub returns-in_err-claims : goal.returns-in_err-claims
returns-in_err-claims c =
    exit _ _ _ (λ s. past_word c.in_ok-variables.ensures c.in_ok-span.ensures (form part_claims make_claims s))
    c.in_err-claims.ensures c.from_residual-in_err-claims.ensures.1

pub returns : goal.returns
returns c = question_spelled c.in_ok-variables.ensures c.in_ok-span.ensures c.in_ok-claims.ensures
