use Rattle.std.proofs.Common.{refl}
use Rattle.gh_ast.specs.Tokens.{first_place}
use Rattle.gh_ast.specs.Plain.{statement_of}
use Rattle.gh_parse.proofs.Rules.{first, after, first_then, next_then, ends_tok}
use Rattle.gh_parse.proofs.Exits.{exit, missing, ending}
use Rattle.gh_parse.proofs.StatementViews.{set_view, new_view, call_view}
use Rattle.gh_parse.proofs.ValueForms.{exact_as_expr}
use Rattle.gh_parse.proofs.CallForms.{in_new, new_spelled, in_set, ends_of_set, in_end, no_callee, in_called}
use Rattle.gh_parse.proofs.CallForms.{set_spelled, one_call_spelled}
use Rattle.gh_parse.proofs.cursor.Parser.assignment.Goals as goal

pub returns-in_err-expect_key-2 : goal.returns-in_err-expect_key-2
returns-in_err-expect_key-2 c =
    exit _ _ _ (λ s. in_new c.in_ok-expect_sign.ensures c.in_ok-expect_key.ensures
    (after _ c.in_ok-expect_key.ensures (first (ends_tok first_place refl) s)))
    (missing _ _ _ _ _ first_place refl c.in_err-expect_key-2.ensures) c.from_residual-in_err-expect_key-2.ensures.1

pub returns-in_err-expect_sign-2 : goal.returns-in_err-expect_sign-2
returns-in_err-expect_sign-2 c =
    exit _ _ _ (λ s. in_new c.in_ok-expect_sign.ensures c.in_ok-expect_key.ensures
    (after _ c.in_ok-expect_key.ensures (after _ c.in_ok-expect_key-2.ensures s)))
    (missing _ _ _ _ _ first_place refl c.in_err-expect_sign-2.ensures) c.from_residual-in_err-expect_sign-2.ensures.1

pub returns-then-is_key : goal.returns-then-is_key
returns-then-is_key c =
    rw new_view (new_spelled c.in_ok-expect_sign.ensures c.in_ok-expect_key.ensures c.in_ok-expect_key-2.ensures
    c.in_ok-expect_sign-2.ensures)

pub returns-in_err-value : goal.returns-in_err-value
returns-in_err-value c =
    exit _ _ _ (λ s. in_set c.in_ok-expect_sign.ensures c.if-is_key.ensures (first_then ends_of_set s))
    c.in_err-value.ensures c.from_residual-in_err-value.ensures.1

pub returns-then-not-is_sign : goal.returns-then-not-is_sign
returns-then-not-is_sign c = rw c.and.ensures (ending statement_of _ _ first_place refl
    (λ q e. rw set_view (set_spelled c.in_ok-expect_sign.ensures c.in_ok-value.ensures e))
    (λ s. in_set c.in_ok-expect_sign.ensures c.if-is_key.ensures
    (next_then exact_as_expr c.in_ok-value.ensures (in_end c.if-not-is_sign.ensures s)))
    c.expect_sign-then-not-is_sign.ensures)

pub returns-in_default : goal.returns-in_default
returns-in_default c =
    in_set c.in_ok-expect_sign.ensures c.if-is_key.ensures
    (next_then exact_as_expr c.in_ok-value.ensures (no_callee c.if-not-is_sign.ensures c.in_default.ensures))

pub returns-in_err-arguments : goal.returns-in_err-arguments
returns-in_err-arguments c =
    exit _ _ _
    (λ s. in_set c.in_ok-expect_sign.ensures c.if-is_key.ensures
    (next_then exact_as_expr c.in_ok-value.ensures (in_called c.if-not-is_sign.ensures c.in-Some.ensures s)))
    c.in_err-arguments.ensures c.from_residual-in_err-arguments.ensures.1

pub returns : goal.returns
returns c =
    rw (call_view, c.in_ok-push.ensures.items, c.new-targets.ensures.items)
    (one_call_spelled c.in_ok-expect_sign.ensures c.in_ok-value.ensures c.in-Some.ensures c.in_ok-arguments.ensures)
