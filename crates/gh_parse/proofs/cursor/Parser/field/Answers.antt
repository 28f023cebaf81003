use Rattle.std.proofs.Common.{refl}
use Rattle.gh_ast.specs.Tokens.{first_place}
use Rattle.gh_parse.specs.Stops.{any}
use Rattle.gh_parse.proofs.Rules.{form, first, next, after, ends_tok, ends_seq}
use Rattle.gh_parse.proofs.Exits.{exit, missing}
use Rattle.gh_parse.proofs.ProgramForms.{make_field, part_field, exact_word, ends_word, ends_after_name}
use Rattle.gh_parse.proofs.cursor.Parser.field.Goals as goal

pub returns-in_err-expect_key : goal.returns-in_err-expect_key
returns-in_err-expect_key c =
    exit _ _ _ (λ s. form make_field part_field (first (ends_seq ends_word ends_after_name) s))
    (missing _ _ _ _ _ first_place refl c.in_err-expect_key.ensures)
    c.from_residual.ensures.1

pub returns-in_err-name : goal.returns-in_err-name
returns-in_err-name c =
    exit _ _ _ (λ s. form make_field part_field (after _ c.in_ok-expect_key.ensures (first ends_after_name s)))
    c.in_err-name.ensures c.from_residual-in_err-name.ensures.1

pub returns-in_err-expect_sign : goal.returns-in_err-expect_sign
returns-in_err-expect_sign c =
    exit _ _ _
    (λ s. form make_field part_field
    (after _ c.in_ok-expect_key.ensures
    (next exact_word (any c.in_ok-name.ensures) (first (ends_seq ends_word (ends_tok first_place refl)) s))))
    (missing _ _ _ _ _ first_place refl c.in_err-expect_sign.ensures) c.from_residual-in_err-expect_sign.ensures.1

pub returns-in_err-kind : goal.returns-in_err-kind
returns-in_err-kind c =
    exit _ _ _
    (λ s. form make_field part_field
    (after _ c.in_ok-expect_key.ensures
    (next exact_word (any c.in_ok-name.ensures)
    (after _ c.in_ok-expect_sign.ensures (first (ends_tok first_place refl) s)))))
    c.in_err-kind.ensures c.from_residual-in_err-kind.ensures.1

pub returns-in_err-expect_sign-2 : goal.returns-in_err-expect_sign-2
returns-in_err-expect_sign-2 c =
    exit _ _ _
    (λ s. form make_field part_field
    (after _ c.in_ok-expect_key.ensures
    (next exact_word (any c.in_ok-name.ensures)
    (after _ c.in_ok-expect_sign.ensures (next exact_word (any c.in_ok-kind.ensures) s)))))
    (missing _ _ _ _ _ first_place refl c.in_err-expect_sign-2.ensures) c.from_residual-in_err-expect_sign-2.ensures.1
