use Rattle.std.proofs.Common.{refl}
use Rattle.gh_ast.specs.Tokens.{first_place}
use Rattle.gh_ast.specs.declared.Operand.TheVariants as operand
use Rattle.gh_parse.specs.Stops.{any}
use Rattle.gh_parse.proofs.Rules.{first, next, after, at_same, ends_tok, ends_seq}
use Rattle.gh_parse.proofs.Exits.{exit, missing}
use Rattle.gh_parse.proofs.Folds.{formula_of-points, formula_of-pure}
use Rattle.gh_parse.proofs.ValueForms.{ends_operand}
use Rattle.gh_parse.proofs.TestForms.{exact_comparison}
use Rattle.gh_parse.proofs.AssertionForms.{in_pointed, in_compared, points, compared_name}
use Rattle.gh_parse.proofs.cursor.Parser.named_item.Goals as goal

pub returns-in_err-expect_key : goal.returns-in_err-expect_key
returns-in_err-expect_key c =
    exit _ _ _ (λ s. in_pointed c.in_ok-at.ensures c.in-Some.ensures.taken
    (first (ends_seq (ends_tok first_place refl) ends_operand) s))
    (missing _ _ _ _ _ first_place refl c.in_err-expect_key.ensures) c.from_residual-in_err-expect_key.ensures.1

pub returns-in_err-expect_sign : goal.returns-in_err-expect_sign
returns-in_err-expect_sign c =
    exit _ _ _ (λ s. in_pointed c.in_ok-at.ensures c.in-Some.ensures.taken
    (after _ c.in_ok-expect_key.ensures (first ends_operand s)))
    (missing _ _ _ _ _ first_place refl c.in_err-expect_sign.ensures) c.from_residual-in_err-expect_sign.ensures.1

pub returns-in_err-to : goal.returns-in_err-to
returns-in_err-to c =
    exit _ _ _ (λ s. in_pointed c.in_ok-at.ensures c.in-Some.ensures.taken
    (after _ c.in_ok-expect_key.ensures (after _ c.in_ok-expect_sign.ensures s))) c.in_err-to.ensures
    c.from_residual-in_err-to.ensures.1

pub returns-in-Some : goal.returns-in-Some
returns-in-Some c =
    rw (formula_of-points c.in_ok-at.at c.in_ok-to.to)
    (points c.in_ok-at.ensures c.in-Some.ensures.taken c.in_ok-expect_key.ensures c.in_ok-expect_sign.ensures
    c.in_ok-to.ensures)

pub returns-in_err-equal : goal.returns-in_err-equal
returns-in_err-equal c =
    exit _ _ _ (λ s. in_compared c.in_ok-at.ensures c.in_default.ensures.taken
    (first ends_operand (at_same c.in_default.ensures.stays s))) c.in_err-equal.ensures
    c.from_residual-in_err-equal.ensures.1

pub returns-in_err-right : goal.returns-in_err-right
returns-in_err-right c =
    exit _ _ _
    (λ s. in_compared c.in_ok-at.ensures c.in_default.ensures.taken
    (at_same c.in_default.ensures.stays (next exact_comparison (any c.in_ok-equal.ensures) s)))
    c.in_err-right.ensures c.from_residual-in_err-right.ensures.1

pub returns : goal.returns
returns c =
    rw (formula_of-pure (operand.Var c.in_ok-at.at) c.in_ok-equal.equal c.in_ok-right.right)
    (compared_name c.in_ok-equal.equal c.in_ok-at.ensures c.in_default.ensures.stays c.in_ok-equal.ensures
    c.in_ok-right.ensures)
