use Rattle.gh_ast.specs.Questions.{claim_of}
use Rattle.gh_ast.specs.QuestionGrammar.{SpellsClaim}
use Rattle.gh_parse.specs.Stops.{IsEnd}
use Rattle.gh_parse.specs.Questions.{SpellsWhole}
use Rattle.gh_parse.proofs.Rules.{form}
use Rattle.gh_parse.proofs.Exits.{exit, exit_missing, taken_and, missing_and, gave, refused}
use Rattle.gh_parse.proofs.QuestionForms.{make_claims, part_claims, claims_spelled, stops_left, stops_word, stops_right}
use Rattle.gh_parse.proofs.cursor.Parser.claims.Goals as goal

pub returns-in_err-claim : goal.returns-in_err-claim
returns-in_err-claim c =
    exit _ _ _ (λ s. form make_claims part_claims (stops_left s)) c.in_err-claim.ensures c.from_residual.ensures.1

pub returns-in_err-left : goal.returns-in_err-left
returns-in_err-left c =
    exit_missing _ _ _ _ (λ n. form make_claims part_claims (stops_word c.in_ok-claim.ensures n))
    (missing_and _ _ _ _ _ _ c.in_err-left.ensures c.expect_key.ensures)
    c.from_residual-in_err-left.ensures.1

pub returns-in_err-left-2 : goal.returns-in_err-left-2
returns-in_err-left-2 c =
    let t = taken_and _ _ _ _ _ _ c.in_ok-left.ensures c.expect_key.ensures in
    exit _ _ _ (λ s. form make_claims part_claims (stops_right c.in_ok-claim.ensures t.2 s))
    (refused _ _ _ _ claim_of _ c.in_err-left-2.ensures.second c.last_claim.ensures)
    c.from_residual-in_err-left-2.ensures.1

pub returns : goal.returns
returns c =
    let t = taken_and _ _ _ _ _ _ c.in_ok-left.ensures c.expect_key.ensures in
    rw (c.in_ok-left-2.ensures.first, t.0)
    (claims_spelled c.in_ok-claim.ensures t.2
    (gave IsEnd (SpellsWhole SpellsClaim) _ _ claim_of _ c.in_ok-left-2.ensures.second c.last_claim.ensures))
