use Rattle.gh_ast.specs.Questions.{claim_of}
use Rattle.gh_parse.proofs.Exits.{exit}
use Rattle.gh_parse.proofs.QuestionForms.{stops_last, whole_claim}
use Rattle.gh_parse.proofs.cursor.Parser.last_claim.Goals as goal

pub returns-in_err-claim : goal.returns-in_err-claim
returns-in_err-claim c = exit _ _ _ (λ s. stops_last s) c.in_err-claim.ensures c.from_residual.ensures.1

pub returns : goal.returns
returns c =
    rw c.and.ensures (whole_claim _ _ claim_of _ _ c.in_ok-claim.ensures c.expect_end.ensures.ok
    c.expect_end.ensures.err)
