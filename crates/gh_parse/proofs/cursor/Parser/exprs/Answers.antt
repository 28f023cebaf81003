use Rattle.std.proofs.Common.{arith}
use Rattle.gh_ast.specs.Tokens.{first_place}
use Rattle.gh_ast.specs.Grammar.{last_expr, next_expr}
use Rattle.gh_parse.specs.Stops.{any}
use Rattle.gh_parse.proofs.Rules.{form, first, next, no_tail, in_tail, ends_tail, ends_tok, at_same}
use Rattle.gh_parse.proofs.ValueForms.{make_exprs, part_exprs, no_comma, exact_expr}
use Rattle.gh_parse.proofs.Turns.{goes_more, goes_last}
use Rattle.gh_parse.proofs.Exits.{exit, missing}
use Rattle.gh_parse.proofs.cursor.Parser.exprs.Goals as goal

pub returns-in_err-expr : goal.returns-in_err-expr
returns-in_err-expr c =
    exit _ _ _ (λ s. c.members.invariant.back _
    (form make_exprs part_exprs (first (ends_tail (ends_tok first_place (c.requires.ends first_place))) s)))
    c.in_err-expr.ensures
    c.from_residual.ensures.1

pub returns-in_err-expect_sign : goal.returns-in_err-expect_sign
returns-in_err-expect_sign c =
    exit _ _ _
    (λ s. c.members.invariant.back _
    (form make_exprs part_exprs
    (next exact_expr (any c.in_ok-expr.ensures)
    (no_tail c.in_default.ensures.taken (at_same c.in_default.ensures.stays s)))))
    (missing _ _ _ _ _ first_place (c.requires.ends first_place) c.in_err-expect_sign.ensures)
    c.from_residual-in_err-expect_sign.ensures.1

pub returns-in_default : goal.returns-in_default
returns-in_default c =
    goes_last (λ l. l) _ _ _ _ c.members.invariant c.in_ok-push.ensures.items (grind (arith, last_expr))

pub members-preserved : goal.members-preserved
members-preserved c =
    goes_more (λ l. l) _ _ _ c.members.invariant c.in_ok-push.ensures.items (λ l rest h. grind (arith, next_expr))
    (λ left s. form make_exprs part_exprs
    (next exact_expr (any c.in_ok-expr.ensures) (in_tail _ (no_comma c.requires.apart) c.in-Some.ensures.taken s)))
