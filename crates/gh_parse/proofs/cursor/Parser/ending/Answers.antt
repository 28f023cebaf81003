use Rattle.std.proofs.Common.{refl}
use Rattle.gh_ast.specs.Tokens.{first_place}
use Rattle.gh_ast.specs.Plain.{body_of}
use Rattle.gh_parse.proofs.Rules.{by, begins_not, first, after}
use Rattle.gh_parse.proofs.Exits.{exit, missing}
use Rattle.gh_parse.proofs.StatementViews.{close_view}
use Rattle.gh_parse.proofs.ProcedureForms.{make_end, part_end, ends_inside, ended_none, ended_some}
use Rattle.gh_parse.proofs.cursor.Parser.ending.Goals as goal

pub returns-then-is_sign : goal.returns-then-is_sign
returns-then-is_sign c = ended_none c.in_ok-close.ensures

pub returns-in_err-expect_sign : goal.returns-in_err-expect_sign
returns-in_err-expect_sign c =
    exit _ _ _ (λ s. by make_end (λ xs r d h. part_end xs r (begins_not c.if-is_sign.ensures d) h)
    (first ends_inside s))
    (missing _ _ _ _ _ first_place refl c.in_err-expect_sign.ensures) c.from_residual-in_err-expect_sign.ensures.1

pub returns-in_err-body : goal.returns-in_err-body
returns-in_err-body c =
    exit _ _ _ (λ s. by make_end (λ xs r d h. part_end xs r (begins_not c.if-is_sign.ensures d) h)
    (after _ c.in_ok-expect_sign.ensures s)) c.in_err-body.ensures
    c.from_residual-in_err-body.ensures.1

pub returns : goal.returns
returns c =
    ended_some {b = body_of c.in_ok-body.body} c.in_ok-expect_sign.ensures c.in_ok-body.ensures
    (close_view c.in_ok-body.body.block)
