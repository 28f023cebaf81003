use Rattle.std.proofs.Common.{refl}
use Rattle.gh_ast.specs.Tokens.{first_place}
use Rattle.gh_parse.proofs.Rules.{form, first_then, next_then}
use Rattle.gh_parse.proofs.ValueForms.{make_expr, part_expr, ends_of, exact_as_operand, no_read_here, in_read}
use Rattle.gh_parse.proofs.ValueForms.{variable_is}
use Rattle.gh_parse.proofs.Exits.{exit, missing}
use Rattle.gh_parse.proofs.cursor.Parser.expr.Goals as goal

pub returns-in_err-operand : goal.returns-in_err-operand
returns-in_err-operand c =
    exit _ _ _ (λ s. form make_expr part_expr (first_then (ends_of _) s)) c.in_err-operand.ensures
    c.from_residual.ensures.1

pub returns-in_default : goal.returns-in_default
returns-in_default c =
    form make_expr part_expr (next_then exact_as_operand c.in_ok-operand.ensures
    (no_read_here c.if-not-is_sign.ensures.2 (λ at t e. c.in_default.not-Var at e)))

pub returns-then-not-reads : goal.returns-then-not-reads
returns-then-not-reads c =
    form make_expr part_expr (next_then exact_as_operand c.in_ok-operand.ensures
    (no_read_here c.if-not-is_sign.ensures.2 (λ at t e. (let f = c.if-not-reads.true in cc))))

pub returns-in_err-expect_key : goal.returns-in_err-expect_key
returns-in_err-expect_key c =
    exit _ _ _ (λ s. form make_expr part_expr
    (next_then exact_as_operand (variable_is c.in-Var.is c.in_ok-operand.ensures)
    (in_read _ c.if-not-reads.false c.in_ok-expect_sign.ensures s)))
    (missing _ _ _ _ _ first_place refl c.in_err-expect_key.ensures) c.from_residual-in_err-expect_key.ensures.1
