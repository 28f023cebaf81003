use Rattle.std.proofs.Common.{arith, refl}
use Rattle.gh_ast.specs.Tokens.{first_place}
use Rattle.gh_ast.specs.Grammar.{last_target, next_target}
use Rattle.gh_parse.proofs.Rules.{form, first, in_tail, no_tail, at_same, ends_tok, ends_tail}
use Rattle.gh_parse.proofs.Exits.{exit, missing}
use Rattle.gh_parse.proofs.Turns.{goes_more, goes_last}
use Rattle.gh_parse.proofs.ValueForms.{a_name}
use Rattle.gh_parse.proofs.CallForms.{make_targets, part_targets, make_targets_from, part_targets_from, no_comma}
use Rattle.gh_parse.proofs.CallForms.{in_targets}
use Rattle.gh_parse.proofs.cursor.Parser.targets.Goals as goal

pub returns-in_err-expect_sign : goal.returns-in_err-expect_sign
returns-in_err-expect_sign c =
    exit _ _ _
    (λ s. c.names.invariant.back _
    (form make_targets_from part_targets_from
    (no_tail c.in_default.ensures.taken (at_same c.in_default.ensures.stays s))))
    (missing _ _ _ _ _ first_place refl c.in_err-expect_sign.ensures) c.from_residual-in_err-expect_sign.ensures.1

pub returns-in_default : goal.returns-in_default
returns-in_default c =
    goes_last (λ l. l) _ _ _ _ c.names.invariant c.in_ok-push.ensures.items (grind (arith, last_target))

pub returns-in_err-name : goal.returns-in_err-name
returns-in_err-name c =
    exit _ _ _
    (λ s. c.names.invariant.back _
    (form make_targets_from part_targets_from
    (in_tail _ no_comma c.in-Some.ensures.taken
    (form make_targets part_targets (first (ends_tail (ends_tok first_place refl)) s)))))
    (missing _ _ _ _ _ a_name refl c.in_err-name.ensures) c.from_residual-in_err-name.ensures.1

pub names-preserved : goal.names-preserved
names-preserved c =
    goes_more (λ l. l) _ _ _ c.names.invariant c.in_ok-push.ensures.items (λ l rest h. grind (arith, next_target))
    (λ left s. form make_targets_from part_targets_from
    (in_tail _ no_comma c.in-Some.ensures.taken (in_targets c.in_ok-name.ensures s)))
