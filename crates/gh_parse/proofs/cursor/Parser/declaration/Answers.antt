use Rattle.std.proofs.Common.{refl}
use Rattle.gh_ast.specs.Tokens.{first_place}
use Rattle.gh_parse.proofs.Rules.{form, first, after, in_tail, no_tail, ends_tok, ends_seq, ends_tail}
use Rattle.gh_parse.proofs.Exits.{exit, missing}
use Rattle.gh_parse.proofs.Turns.{goes_more, goes_last}
use Rattle.gh_parse.proofs.ValueForms.{a_name}
use Rattle.gh_parse.proofs.ProcedureForms.{make_locals, part_locals, no_comma_locals, ends_locals_end, declared_start}
use Rattle.gh_parse.proofs.ProcedureForms.{declared_last, declared_more}
use Rattle.gh_parse.proofs.cursor.Parser.declaration.Goals as goal

pub names-init : goal.names-init
names-init c = declared_start _ _

pub returns-in_err-expect_name : goal.returns-in_err-expect_name
returns-in_err-expect_name c =
    exit _ _ _ (λ s. c.names.invariant.back _ (form make_locals part_locals (first (ends_tail ends_locals_end) s)))
    (missing _ _ _ _ _ a_name refl c.in_err-expect_name.ensures)
    c.from_residual.ensures.1

pub returns-in_err-expect_sign : goal.returns-in_err-expect_sign
returns-in_err-expect_sign c =
    exit _ _ _
    (λ s. c.names.invariant.back _
    (form make_locals part_locals
    (after _ c.in_ok-expect_name.ensures
    (no_tail c.if-not-is_sign.ensures
    (first (ends_seq (ends_tok first_place refl) (ends_tok first_place refl)) s)))))
    (missing _ _ _ _ _ first_place refl c.in_err-expect_sign.ensures) c.from_residual-in_err-expect_sign.ensures.1

pub returns-in_err-expect_key : goal.returns-in_err-expect_key
returns-in_err-expect_key c =
    exit _ _ _
    (λ s. c.names.invariant.back _
    (form make_locals part_locals
    (after _ c.in_ok-expect_name.ensures
    (no_tail c.if-not-is_sign.ensures
    (after _ c.in_ok-expect_sign.ensures (first (ends_tok first_place refl) s))))))
    (missing _ _ _ _ _ first_place refl c.in_err-expect_key.ensures) c.from_residual-in_err-expect_key.ensures.1

pub returns-in_err-expect_sign-2 : goal.returns-in_err-expect_sign-2
returns-in_err-expect_sign-2 c =
    exit _ _ _
    (λ s. c.names.invariant.back _
    (form make_locals part_locals
    (after _ c.in_ok-expect_name.ensures
    (no_tail c.if-not-is_sign.ensures
    (after _ c.in_ok-expect_sign.ensures (after _ c.in_ok-expect_key.ensures s))))))
    (missing _ _ _ _ _ first_place refl c.in_err-expect_sign-2.ensures) c.from_residual-in_err-expect_sign-2.ensures.1

pub returns-then-not-is_sign : goal.returns-then-not-is_sign
returns-then-not-is_sign c =
    goes_last (λ l. l) _ _ _ _ c.names.invariant c.in_ok-push.ensures.items
    (declared_last c.in_ok-expect_name.ensures c.in_ok-expect_sign.ensures c.in_ok-expect_key.ensures
    c.in_ok-expect_sign-2.ensures)

pub names-preserved : goal.names-preserved
names-preserved c =
    goes_more (λ l. l) _ _ _ c.names.invariant c.in_ok-push.ensures.items
    (declared_more c.in_ok-expect_name.ensures c.in_ok-expect_sign-3.ensures)
    (λ left s. form make_locals part_locals
    (after _ c.in_ok-expect_name.ensures (in_tail _ no_comma_locals c.in_ok-expect_sign-3.ensures s)))
