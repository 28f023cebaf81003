use Rattle.std.proofs.Common.{refl}
use Rattle.gh_ast.specs.Tokens.{first_place}
use Rattle.gh_parse.proofs.Rules.{by, told, first, after, ends_tok}
use Rattle.gh_parse.proofs.Exits.{exit, missing}
use Rattle.gh_parse.proofs.StatementViews.{free_view}
use Rattle.gh_parse.proofs.ValueForms.{a_name}
use Rattle.gh_parse.proofs.StatementForms.{make_free, part_free, free_spelled}
use Rattle.gh_parse.proofs.cursor.Parser.free_statement.Goals as goal

pub returns-in_err-at : goal.returns-in_err-at
returns-in_err-at c =
    exit _ _ _ (λ s. by make_free (told _ _ _ c.in_ok-expect_key.ensures part_free)
    (after _ c.in_ok-expect_key.ensures (first (ends_tok first_place refl) s)))
    (missing _ _ _ _ _ a_name refl c.in_err-at.ensures) c.from_residual-in_err-at.ensures.1

pub returns-in_err-expect_sign : goal.returns-in_err-expect_sign
returns-in_err-expect_sign c =
    exit _ _ _ (λ s. by make_free (told _ _ _ c.in_ok-expect_key.ensures part_free)
    (after _ c.in_ok-expect_key.ensures (after _ c.in_ok-at.ensures s)))
    (missing _ _ _ _ _ first_place refl c.in_err-expect_sign.ensures) c.from_residual-in_err-expect_sign.ensures.1

pub returns : goal.returns
returns c = rw free_view (free_spelled c.in_ok-expect_key.ensures c.in_ok-at.ensures c.in_ok-expect_sign.ensures)
