use Rattle.std.proofs.Common.{refl}
use Rattle.gh_ast.specs.Tokens.{first_place}
use Rattle.gh_parse.proofs.Rules.{form, first, after, in_opt}
use Rattle.gh_parse.proofs.Exits.{exit, along, missing}
use Rattle.gh_parse.proofs.ProcedureForms.{make_results, part_results, ends_header, results_none, results_some}
use Rattle.gh_parse.proofs.cursor.Parser.results.Goals as goal

pub returns-then-not-is_key : goal.returns-then-not-is_key
returns-then-not-is_key c = results_none c.if-not-is_key.ensures c.new.ensures.items

pub returns-in_err-expect_sign : goal.returns-in_err-expect_sign
returns-in_err-expect_sign c =
    exit _ _ _ (λ s. form make_results part_results (in_opt _ c.in_ok-expect_key.ensures (first ends_header s)))
    (missing _ _ _ _ _ first_place refl c.in_err-expect_sign.ensures)
    c.from_residual-in_err-expect_sign.ensures.1

pub returns : goal.returns
returns c =
    along _ _ (λ x h. results_some c.in_ok-expect_key.ensures c.in_ok-expect_sign.ensures x _ h)
    (λ s. form make_results part_results (in_opt _ c.in_ok-expect_key.ensures (after _ c.in_ok-expect_sign.ensures s)))
    c.header.ensures
