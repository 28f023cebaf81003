use Rattle.std.proofs.Common.{refl}
use Rattle.gh_ast.specs.Tokens.{first_place}
use Rattle.gh_parse.specs.Stops.{any}
use Rattle.gh_parse.proofs.Rules.{by, told, first, next, after, ends_tok, ends_seq}
use Rattle.gh_parse.proofs.Exits.{exit, missing}
use Rattle.gh_parse.proofs.Folds.{formula_of-lseg}
use Rattle.gh_parse.proofs.ValueForms.{exact_operand, ends_operand}
use Rattle.gh_parse.proofs.AssertionForms.{segmented, make_lseg, part_lseg}
use Rattle.gh_parse.proofs.cursor.Parser.lseg.Goals as goal

pub returns-in_err-expect_sign : goal.returns-in_err-expect_sign
returns-in_err-expect_sign c =
    exit _ _ _
    (λ s. by make_lseg (told _ _ _ c.in_ok-expect_key.ensures part_lseg)
    (after _ c.in_ok-expect_key.ensures
    (first (ends_seq ends_operand
    (ends_seq (ends_tok first_place refl) (ends_seq ends_operand (ends_tok first_place refl)))) s)))
    (missing _ _ _ _ _ first_place refl c.in_err-expect_sign.ensures) c.from_residual-in_err-expect_sign.ensures.1

pub returns-in_err-from : goal.returns-in_err-from
returns-in_err-from c =
    exit _ _ _
    (λ s. by make_lseg (told _ _ _ c.in_ok-expect_key.ensures part_lseg)
    (after _ c.in_ok-expect_key.ensures
    (after _ c.in_ok-expect_sign.ensures
    (first (ends_seq (ends_tok first_place refl) (ends_seq ends_operand (ends_tok first_place refl))) s))))
    c.in_err-from.ensures c.from_residual-in_err-from.ensures.1

pub returns-in_err-expect_sign-2 : goal.returns-in_err-expect_sign-2
returns-in_err-expect_sign-2 c =
    exit _ _ _
    (λ s. by make_lseg (told _ _ _ c.in_ok-expect_key.ensures part_lseg)
    (after _ c.in_ok-expect_key.ensures
    (after _ c.in_ok-expect_sign.ensures
    (next exact_operand (any c.in_ok-from.ensures) (first (ends_seq ends_operand (ends_tok first_place refl)) s)))))
    (missing _ _ _ _ _ first_place refl c.in_err-expect_sign-2.ensures) c.from_residual-in_err-expect_sign-2.ensures.1

pub returns-in_err-to : goal.returns-in_err-to
returns-in_err-to c =
    exit _ _ _
    (λ s. by make_lseg (told _ _ _ c.in_ok-expect_key.ensures part_lseg)
    (after _ c.in_ok-expect_key.ensures
    (after _ c.in_ok-expect_sign.ensures
    (next exact_operand (any c.in_ok-from.ensures)
    (after _ c.in_ok-expect_sign-2.ensures (first (ends_tok first_place refl) s))))))
    c.in_err-to.ensures c.from_residual-in_err-to.ensures.1

pub returns-in_err-expect_sign-3 : goal.returns-in_err-expect_sign-3
returns-in_err-expect_sign-3 c =
    exit _ _ _
    (λ s. by make_lseg (told _ _ _ c.in_ok-expect_key.ensures part_lseg)
    (after _ c.in_ok-expect_key.ensures
    (after _ c.in_ok-expect_sign.ensures
    (next exact_operand (any c.in_ok-from.ensures)
    (after _ c.in_ok-expect_sign-2.ensures (next exact_operand (any c.in_ok-to.ensures) s))))))
    (missing _ _ _ _ _ first_place refl c.in_err-expect_sign-3.ensures) c.from_residual-in_err-expect_sign-3.ensures.1

pub returns : goal.returns
returns c =
    rw (formula_of-lseg c.in_ok-from.from c.in_ok-to.to)
    (
    segmented c.in_ok-expect_key.ensures c.in_ok-expect_sign.ensures c.in_ok-from.ensures c.in_ok-expect_sign-2.ensures
    c.in_ok-to.ensures c.in_ok-expect_sign-3.ensures
    )
