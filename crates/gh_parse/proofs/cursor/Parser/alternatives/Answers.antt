use Rattle.std.proofs.Common.{refl, ap, length, arith}
use Rattle.gh_ast.proofs.Shorter.{shorter_assertion}
use Rattle.gh_parse.proofs.Rules.{form, first, ends_opt}
use Rattle.gh_parse.proofs.AssertionForms.{make_alternatives, part_alternatives, alternative_last, alternative_more}
use Rattle.gh_parse.proofs.AssertionForms.{alternatives_rest, shown_more}
use Rattle.gh_parse.proofs.Turns.{goes_more, goes_last}
use Rattle.gh_parse.proofs.Exits.{exit}
use Rattle.gh_parse.proofs.cursor.Parser.alternatives.Goals as goal

pub returns-in_err-assertion-clause-read : goal.returns-in_err-assertion-clause-read
returns-in_err-assertion-clause-read c =
    exit _ _ _ (λ s. c.members.invariant.back _
    (form make_alternatives part_alternatives (first (ends_opt (λ p. refl)) s))) c.in_err-assertion.ensures
    c.from_residual.ensures.1

pub returns-in_default-clause-read : goal.returns-in_default-clause-read
returns-in_default-clause-read c =
    goes_last (λ l. l) _ _ _ _ c.members.invariant (shown_more _ _ _ c.in_ok-push.ensures.items)
    (alternative_last c.in_ok-assertion.ensures c.in_default.ensures.taken c.in_default.ensures.stays)

pub members-preserved : goal.members-preserved
members-preserved c =
    goes_more (λ l. l) _ _ _ c.members.invariant (shown_more _ _ _ c.in_ok-push.ensures.items)
    (λ l rest h. alternative_more c.in_ok-assertion.ensures c.in-Some.ensures.taken l rest h)
    (λ left s. alternatives_rest c.in_ok-assertion.ensures c.in-Some.ensures.taken left s)

pub members-smaller : goal.members-smaller
members-smaller c = let h = shorter_assertion c.in_ok-assertion.ensures in let e = ap length c.in-Some.ensures.taken in
    omega arith
