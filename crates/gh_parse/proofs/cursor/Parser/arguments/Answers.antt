use Rattle.std.proofs.Common.{refl}
use Rattle.gh_ast.specs.Tokens.{first_place}
use Rattle.gh_parse.specs.Stops.{any}
use Rattle.gh_parse.proofs.Rules.{form, first, next, after, ends_tok, ends_seq}
use Rattle.gh_parse.proofs.Exits.{exit, missing}
use Rattle.gh_parse.proofs.ValueForms.{exact_values, ends_values}
use Rattle.gh_parse.proofs.CallForms.{make_arguments, part_arguments}
use Rattle.gh_parse.proofs.cursor.Parser.arguments.Goals as goal

pub returns-in_err-expect_sign : goal.returns-in_err-expect_sign
returns-in_err-expect_sign c =
    exit _ _ _ (λ s. form make_arguments part_arguments
    (first (ends_seq (ends_values first_place refl) (ends_tok first_place refl)) s))
    (missing _ _ _ _ _ first_place refl c.in_err-expect_sign.ensures) c.from_residual.ensures.1

pub returns-in_err-values : goal.returns-in_err-values
returns-in_err-values c =
    exit _ _ _ (λ s. form make_arguments part_arguments
    (after _ c.in_ok-expect_sign.ensures (first (ends_tok first_place refl) s))) c.in_err-values.ensures
    c.from_residual-in_err-values.ensures.1

pub returns-in_err-expect_sign-2 : goal.returns-in_err-expect_sign-2
returns-in_err-expect_sign-2 c =
    exit _ _ _ (λ s. form make_arguments part_arguments
    (after _ c.in_ok-expect_sign.ensures (next (exact_values (λ e. cc)) (any c.in_ok-values.ensures) s)))
    (missing _ _ _ _ _ first_place refl c.in_err-expect_sign-2.ensures) c.from_residual-in_err-expect_sign-2.ensures.1
