use Rattle.std.proofs.Common.{refl}
use Rattle.gh_ast.specs.Tokens.{first_place}
use Rattle.gh_parse.proofs.Rules.{by, told, first, after, ends_tok, ends_seq}
use Rattle.gh_parse.proofs.Exits.{exit, missing}
use Rattle.gh_parse.proofs.Folds.{formula_of-acc}
use Rattle.gh_parse.proofs.ValueForms.{a_name}
use Rattle.gh_parse.proofs.AssertionForms.{allocated, make_acc, part_acc}
use Rattle.gh_parse.proofs.cursor.Parser.acc.Goals as goal

pub returns-in_err-expect_sign : goal.returns-in_err-expect_sign
returns-in_err-expect_sign c =
    exit _ _ _
    (λ s. by make_acc (told _ _ _ c.in_ok-expect_key.ensures part_acc)
    (after _ c.in_ok-expect_key.ensures (first (ends_seq (ends_tok a_name refl) (ends_tok first_place refl)) s)))
    (missing _ _ _ _ _ first_place refl c.in_err-expect_sign.ensures) c.from_residual-in_err-expect_sign.ensures.1

pub returns-in_err-at : goal.returns-in_err-at
returns-in_err-at c =
    exit _ _ _
    (λ s. by make_acc (told _ _ _ c.in_ok-expect_key.ensures part_acc)
    (after _ c.in_ok-expect_key.ensures (after _ c.in_ok-expect_sign.ensures (first (ends_tok first_place refl) s))))
    (missing _ _ _ _ _ a_name refl c.in_err-at.ensures) c.from_residual-in_err-at.ensures.1

pub returns-in_err-expect_sign-2 : goal.returns-in_err-expect_sign-2
returns-in_err-expect_sign-2 c =
    exit _ _ _
    (λ s. by make_acc (told _ _ _ c.in_ok-expect_key.ensures part_acc)
    (after _ c.in_ok-expect_key.ensures (after _ c.in_ok-expect_sign.ensures (after _ c.in_ok-at.ensures s))))
    (missing _ _ _ _ _ first_place refl c.in_err-expect_sign-2.ensures) c.from_residual-in_err-expect_sign-2.ensures.1

pub returns : goal.returns
returns c =
    rw (formula_of-acc c.in_ok-at.at)
    (allocated c.in_ok-expect_key.ensures c.in_ok-expect_sign.ensures c.in_ok-at.ensures c.in_ok-expect_sign-2.ensures)
