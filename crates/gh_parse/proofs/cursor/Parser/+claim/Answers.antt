use Rattle.std.proofs.Common.{refl, arith}
use Rattle.gh_ast.specs.Tokens.{first_place}
use Rattle.gh_ast.specs.Questions.{every, either, claim_first, no_claims, claim_of}
use Rattle.gh_ast.proofs.QuestionViews.{claim_of-Leaf, claim_of-Not, claim_of-And, claim_of-Or}
use Rattle.gh_ast.proofs.ShorterQuestion.{shorter_denial, shorter_both}
use Rattle.gh_parse.specs.Questions.{IsApart}
use Rattle.gh_parse.proofs.Rules.{by, form, told, begins_not, at_same, first, after, each, of_any}
use Rattle.gh_parse.proofs.Exits.{exit, along, missing}
use Rattle.gh_parse.proofs.Turns.{chain_more, chain_last, fewer}
use Rattle.gh_parse.proofs.TestForms.{closed, make_between, part_between}
use Rattle.gh_parse.proofs.ClaimForms.{first_apart, make_braced, part_braced, make_bracketed, part_bracketed, bracketed}
use Rattle.gh_parse.proofs.ClaimForms.{braced, make_affirmed, part_affirmed, make_denied, part_denied, not_so}
use Rattle.gh_parse.proofs.ClaimForms.{as_it_stands, make_both, part_both, make_denials, part_denials, make_claim}
use Rattle.gh_parse.proofs.ClaimForms.{part_claim, make_boths, part_boths, exact_claim, no_and, no_or, bracket_closes}
use Rattle.gh_parse.proofs.ClaimForms.{claim_closes, at_once, claims_before, both_alone, both_start, denials_rest}
use Rattle.gh_parse.proofs.ClaimForms.{denials_more, denials_last, claim_alone, claim_start, boths_rest, boths_more}
use Rattle.gh_parse.proofs.ClaimForms.{boths_last}
use Rattle.gh_parse.proofs.cursor.Parser.+claim.Goals as goal

pub claims_together-returns-in_default : goal.claims_together-returns-in_default
claims_together-returns-in_default t c =
    both_alone c.in_ok-first.ensures c.in_default.ensures.taken c.in_default.ensures.stays

pub claims_together-members-init : goal.claims_together-members-init
claims_together-members-init t c = record {
  goes = both_start _ _ _ c.in_ok-first.ensures c.in-Some.ensures.taken c.new-members.ensures.items
      c.in_ok-push.ensures.items;
  shorter = fewer _ _ _ (shorter_denial c.in_ok-first.ensures) c.in-Some.ensures.taken;
}

pub claims_together-returns-in_err-denial : goal.claims_together-returns-in_err-denial
claims_together-returns-in_err-denial t c =
    exit _ _ _ (λ s. c.members.invariant.goes.back _ (form make_denials part_denials (first_apart no_and s)))
    c.in_err-denial.ensures c.from_residual-in_err-denial.ensures.1

pub claims_together-members-smaller : goal.claims_together-members-smaller
claims_together-members-smaller t c =
    fewer _ _ _ (shorter_denial c.in_ok-denial.ensures) c.in-Some-take_sign.ensures.taken

pub claims_together-members-preserved : goal.claims_together-members-preserved
claims_together-members-preserved t c =
    let step = fewer _ _ _ (shorter_denial c.in_ok-denial.ensures) c.in-Some-take_sign.ensures.taken in
    record {
      goes =
          chain_more (λ d. claim_first (claim_of d)) every _ _ _ c.members.invariant.goes c.in_ok-push-2.ensures.items
          (denials_more c.in_ok-denial.ensures c.in-Some-take_sign.ensures.taken)
          (denials_rest c.in_ok-denial.ensures c.in-Some-take_sign.ensures.taken);
      shorter = omega (arith, step, c.members.invariant.shorter);
    }

pub claims_together-returns-in_default-take_sign : goal.claims_together-returns-in_default-take_sign
claims_together-returns-in_default-take_sign t c =
    rw (claim_of-And c.push-in-members.new.self, ← claims_before c.push-in-members.new.self.items)
    (
    chain_last (λ d. claim_first (claim_of d)) every _ _ _ no_claims _ c.members.invariant.goes
    c.in_ok-push-2.ensures.items
    (denials_last c.in_ok-denial.ensures c.in_default-take_sign.ensures.taken c.in_default-take_sign.ensures.stays)
    )

pub claim-returns-in_default : goal.claim-returns-in_default
claim-returns-in_default t c = claim_alone c.in_ok-first.ensures c.in_default.ensures.taken c.in_default.ensures.stays

pub claim-members-init : goal.claim-members-init
claim-members-init t c = record {
  goes = claim_start _ _ _ c.in_ok-first.ensures c.in-Some.ensures.taken c.new-members.ensures.items
      c.in_ok-push.ensures.items;
  shorter = fewer _ _ _ (shorter_both c.in_ok-first.ensures) c.in-Some.ensures.taken;
}

pub claim-returns-in_err-claims_together : goal.claim-returns-in_err-claims_together
claim-returns-in_err-claims_together t c =
    exit _ _ _ (λ s. c.members.invariant.goes.back _ (form make_boths part_boths (first_apart no_or s)))
    c.in_err-claims_together.ensures c.from_residual-in_err-claims_together.ensures.1

pub claim-members-smaller : goal.claim-members-smaller
claim-members-smaller t c = fewer _ _ _ (shorter_both c.in_ok-claims_together.ensures) c.in-Some-take_sign.ensures.taken

pub claim-members-preserved : goal.claim-members-preserved
claim-members-preserved t c =
    let step = fewer _ _ _ (shorter_both c.in_ok-claims_together.ensures) c.in-Some-take_sign.ensures.taken in
    record {
      goes =
          chain_more (λ d. claim_first (claim_of d)) either _ _ _ c.members.invariant.goes c.in_ok-push-2.ensures.items
          (boths_more c.in_ok-claims_together.ensures c.in-Some-take_sign.ensures.taken)
          (boths_rest c.in_ok-claims_together.ensures c.in-Some-take_sign.ensures.taken);
      shorter = omega (arith, step, c.members.invariant.shorter);
    }

pub claim-returns-in_default-take_sign : goal.claim-returns-in_default-take_sign
claim-returns-in_default-take_sign t c =
    rw (claim_of-Or c.push-in-members.new.self, ← claims_before c.push-in-members.new.self.items)
    (
    chain_last (λ d. claim_first (claim_of d)) either _ _ _ no_claims _ c.members.invariant.goes
    c.in_ok-push-2.ensures.items
    (boths_last c.in_ok-claims_together.ensures c.in_default-take_sign.ensures.taken
    c.in_default-take_sign.ensures.stays)
    )

pub claims_together-returns-in_err-first : goal.claims_together-returns-in_err-first
claims_together-returns-in_err-first t c =
    exit _ _ _ (λ s. form make_both part_both (first_apart no_and s)) c.in_err-first.ensures c.from_residual.ensures.1

pub claim-returns-in_err-first : goal.claim-returns-in_err-first
claim-returns-in_err-first t c =
    exit _ _ _ (λ s. form make_claim part_claim (first_apart no_or s)) c.in_err-first.ensures c.from_residual.ensures.1

pub enclosed_claim-returns-in_err-expect_sign : goal.enclosed_claim-returns-in_err-expect_sign
enclosed_claim-returns-in_err-expect_sign t c =
    exit _ _ _ (λ s. form make_between part_between (first claim_closes s))
    (missing _ _ _ _ _ first_place refl c.in_err-expect_sign.ensures) c.from_residual.ensures.1

pub enclosed_claim-returns-in_err-inner : goal.enclosed_claim-returns-in_err-inner
enclosed_claim-returns-in_err-inner t c =
    exit _ _ _ (λ s. form make_between part_between
    (after _ c.in_ok-expect_sign.ensures (first_apart bracket_closes s))) c.in_err-inner.ensures
    c.from_residual-in_err-inner.ensures.1

pub enclosed_claim-returns : goal.enclosed_claim-returns
enclosed_claim-returns t c =
    rw c.and.ensures (closed IsApart _ _ _ _ _ c.in_ok-expect_sign.ensures (each exact_claim) refl c.in_ok-inner.ensures
    c.expect_sign-2.ensures)

pub claim_part-returns-then-is_sign : goal.claim_part-returns-then-is_sign
claim_part-returns-then-is_sign t c =
    along _ _ (λ x h. bracketed x _ h) (λ s. by make_bracketed (told _ _ _ c.if-is_sign.ensures.2 part_bracketed) s)
    c.enclosed_claim.ensures

pub claim_part-returns-in_err-assertion : goal.claim_part-returns-in_err-assertion
claim_part-returns-in_err-assertion t c =
    exit _ _ _ (λ s. by make_braced (λ xs r d h. part_braced xs r (begins_not c.if-is_sign.ensures d) h) (of_any s))
    c.in_err-assertion.ensures c.from_residual.ensures.1

pub claim_part-returns : goal.claim_part-returns
claim_part-returns t c = rw (claim_of-Leaf c.in_ok-assertion.assertion) (braced c.in_ok-assertion.ensures)

pub denial-returns-in_default : goal.denial-returns-in_default
denial-returns-in_default t c =
    along _ _ (λ x h. as_it_stands x _ c.in_default.ensures.stays h)
    (λ s. at_same c.in_default.ensures.stays
    (by make_affirmed (λ xs r d h. part_affirmed xs r
    (begins_not (at_once c.in_default.ensures.stays c.in_default.ensures.taken) d) h) s)) c.claim_part.ensures

pub denial-returns-in_err-denied : goal.denial-returns-in_err-denied
denial-returns-in_err-denied t c =
    exit _ _ _ (λ s. by make_denied (told _ _ _ c.in-Some.ensures.taken part_denied)
    (after _ c.in-Some.ensures.taken s)) c.in_err-denied.ensures c.from_residual.ensures.1

pub denial-returns : goal.denial-returns
denial-returns t c =
    rw (claim_of-Not c.in_ok-new.field-0, c.in_ok-new.ensures.ok)
    (not_so c.in-Some.ensures.taken c.in_ok-denied.ensures)
