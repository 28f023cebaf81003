use Rattle.std.proofs.Common.{refl}
use Rattle.gh_ast.specs.Tokens.{first_place}
use Rattle.gh_parse.specs.Stops.{any}
use Rattle.gh_parse.proofs.Rules.{form, first, next, after, each, ends_tok, ends_seq}
use Rattle.gh_parse.proofs.Exits.{exit, missing}
use Rattle.gh_parse.proofs.ValueForms.{a_name}
use Rattle.gh_parse.proofs.ProcedureForms.{make_heading, part_heading, heading_spelled, exact_header, ends_results}
use Rattle.gh_parse.proofs.ProcedureForms.{ends_after_bracket}
use Rattle.gh_parse.proofs.cursor.Parser.heading.Goals as goal

pub returns-in_err-expect_key : goal.returns-in_err-expect_key
returns-in_err-expect_key c =
    exit _ _ _ (λ s. form make_heading part_heading
    (first (ends_seq (ends_tok a_name refl) (ends_seq (ends_tok first_place refl) ends_after_bracket)) s))
    (missing _ _ _ _ _ first_place refl c.in_err-expect_key.ensures) c.from_residual.ensures.1

pub returns-in_err-name : goal.returns-in_err-name
returns-in_err-name c =
    exit _ _ _ (λ s. form make_heading part_heading
    (after _ c.in_ok-expect_key.ensures (first (ends_seq (ends_tok first_place refl) ends_after_bracket) s)))
    (missing _ _ _ _ _ a_name refl c.in_err-name.ensures) c.from_residual-in_err-name.ensures.1

pub returns-in_err-expect_sign : goal.returns-in_err-expect_sign
returns-in_err-expect_sign c =
    exit _ _ _ (λ s. form make_heading part_heading
    (after _ c.in_ok-expect_key.ensures (after _ c.in_ok-name.ensures (first ends_after_bracket s))))
    (missing _ _ _ _ _ first_place refl c.in_err-expect_sign.ensures) c.from_residual-in_err-expect_sign.ensures.1

pub returns-in_err-parameters : goal.returns-in_err-parameters
returns-in_err-parameters c =
    exit _ _ _
    (λ s. form make_heading part_heading
    (after _ c.in_ok-expect_key.ensures
    (after _ c.in_ok-name.ensures (after _ c.in_ok-expect_sign.ensures (first ends_results s)))))
    c.in_err-parameters.ensures c.from_residual-in_err-parameters.ensures.1

pub returns-in_err-results : goal.returns-in_err-results
returns-in_err-results c =
    exit _ _ _
    (λ s. form make_heading part_heading
    (after _ c.in_ok-expect_key.ensures
    (after _ c.in_ok-name.ensures
    (after _ c.in_ok-expect_sign.ensures (next (each exact_header) (any c.in_ok-parameters.ensures) s)))))
    c.in_err-results.ensures c.from_residual-in_err-results.ensures.1

pub returns : goal.returns
returns c =
    heading_spelled c.in_ok-expect_key.ensures c.in_ok-name.ensures c.in_ok-expect_sign.ensures
    c.in_ok-parameters.ensures c.in_ok-results.ensures
