use Rattle.std.proofs.Common.{refl}
use Rattle.gh_ast.specs.Tokens.{first_place}
use Rattle.gh_parse.specs.Stops.{any}
use Rattle.gh_parse.proofs.Rules.{form, first, next, after, ends_tok, ends_seq}
use Rattle.gh_parse.proofs.Exits.{exit, missing}
use Rattle.gh_parse.proofs.ProgramForms.{make_program, part_program, exact_shape, ends_all, ends_after_brace}
use Rattle.gh_parse.proofs.ProgramForms.{program_spelled}
use Rattle.gh_parse.specs.Procedures.{shape_of}
use Rattle.gh_parse.proofs.cursor.Parser.program.Goals as goal

pub returns-in_err-expect_key : goal.returns-in_err-expect_key
returns-in_err-expect_key c =
    exit _ _ _ (λ s. form make_program part_program
    (first (ends_seq (ends_tok first_place refl) (ends_seq (ends_tok first_place refl) ends_after_brace)) s))
    (missing _ _ _ _ _ first_place refl c.in_err-expect_key.ensures) c.from_residual.ensures.1

pub returns-in_err-expect_key-2 : goal.returns-in_err-expect_key-2
returns-in_err-expect_key-2 c =
    exit _ _ _ (λ s. form make_program part_program
    (after _ c.in_ok-expect_key.ensures (first (ends_seq (ends_tok first_place refl) ends_after_brace) s)))
    (missing _ _ _ _ _ first_place refl c.in_err-expect_key-2.ensures) c.from_residual-in_err-expect_key-2.ensures.1

pub returns-in_err-expect_sign : goal.returns-in_err-expect_sign
returns-in_err-expect_sign c =
    exit _ _ _ (λ s. form make_program part_program
    (after _ c.in_ok-expect_key.ensures (after _ c.in_ok-expect_key-2.ensures (first ends_after_brace s))))
    (missing _ _ _ _ _ first_place refl c.in_err-expect_sign.ensures) c.from_residual-in_err-expect_sign.ensures.1

pub returns-in_err-shape : goal.returns-in_err-shape
returns-in_err-shape c =
    exit _ _ _
    (λ s. form make_program part_program
    (after _ c.in_ok-expect_key.ensures
    (after _ c.in_ok-expect_key-2.ensures (after _ c.in_ok-expect_sign.ensures (first ends_all s)))))
    c.in_err-shape.ensures
    c.from_residual-in_err-shape.ensures.1

pub returns-in_err-procedures : goal.returns-in_err-procedures
returns-in_err-procedures c =
    exit _ _ _
    (λ s. form make_program part_program
    (after _ c.in_ok-expect_key.ensures
    (after _ c.in_ok-expect_key-2.ensures
    (after _ c.in_ok-expect_sign.ensures
    (next exact_shape (any {x = shape_of c.in_ok-shape.shape} c.in_ok-shape.ensures) s)))))
    c.in_err-procedures.ensures
    c.from_residual-in_err-procedures.ensures.1

pub returns : goal.returns
returns c =
    program_spelled c.in_ok-expect_key.ensures c.in_ok-expect_key-2.ensures c.in_ok-expect_sign.ensures
    c.in_ok-shape.ensures c.in_ok-procedures.ensures
