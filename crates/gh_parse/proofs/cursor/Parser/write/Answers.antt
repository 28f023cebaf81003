use Rattle.std.proofs.Common.{refl}
use Rattle.gh_ast.specs.Tokens.{first_place}
use Rattle.gh_ast.specs.Plain.{statement_of}
use Rattle.gh_parse.specs.Stops.{any}
use Rattle.gh_parse.proofs.Rules.{by, told, first, next, after, ends_tok, ends_seq}
use Rattle.gh_parse.proofs.Exits.{exit, missing, ending}
use Rattle.gh_parse.proofs.StatementViews.{write_view}
use Rattle.gh_parse.proofs.ValueForms.{exact_expr, ends_expr}
use Rattle.gh_parse.proofs.CallForms.{make_write, part_write, write_spelled}
use Rattle.gh_parse.proofs.cursor.Parser.write.Goals as goal

pub returns-in_err-expect_key : goal.returns-in_err-expect_key
returns-in_err-expect_key c =
    exit _ _ _
    (λ s. by make_write (told _ _ _ c.requires.2 part_write)
    (after _ c.in_ok-expect_sign.ensures
    (first (ends_seq (ends_tok first_place refl) (ends_seq (ends_expr _) (ends_tok first_place refl))) s)))
    (missing _ _ _ _ _ first_place refl c.in_err-expect_key.ensures) c.from_residual-in_err-expect_key.ensures.1

pub returns-in_err-expect_sign-2 : goal.returns-in_err-expect_sign-2
returns-in_err-expect_sign-2 c =
    exit _ _ _
    (λ s. by make_write (told _ _ _ c.requires.2 part_write)
    (after _ c.in_ok-expect_sign.ensures
    (after _ c.in_ok-expect_key.ensures (first (ends_seq (ends_expr _) (ends_tok first_place refl)) s))))
    (missing _ _ _ _ _ first_place refl c.in_err-expect_sign-2.ensures) c.from_residual-in_err-expect_sign-2.ensures.1

pub returns-in_err-value : goal.returns-in_err-value
returns-in_err-value c =
    exit _ _ _
    (λ s. by make_write (told _ _ _ c.requires.2 part_write)
    (after _ c.in_ok-expect_sign.ensures
    (after _ c.in_ok-expect_key.ensures
    (after _ c.in_ok-expect_sign-2.ensures (first (ends_tok first_place refl) s)))))
    c.in_err-value.ensures c.from_residual-in_err-value.ensures.1

pub returns : goal.returns
returns c = rw c.and.ensures (ending statement_of _ _ first_place refl
    (λ q e. rw write_view (write_spelled c.in_ok-expect_sign.ensures c.in_ok-expect_key.ensures
    c.in_ok-expect_sign-2.ensures c.in_ok-value.ensures e))
    (λ s. by make_write (told _ _ _ c.requires.2 part_write)
    (after _ c.in_ok-expect_sign.ensures
    (after _ c.in_ok-expect_key.ensures
    (after _ c.in_ok-expect_sign-2.ensures (next exact_expr (any c.in_ok-value.ensures) s)))))
    c.expect_sign-3.ensures)
