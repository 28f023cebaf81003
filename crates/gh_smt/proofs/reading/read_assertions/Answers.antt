use Rattle.std.proofs.Common.{subst}
use Rattle.gh_log.specs.Reading.{SpellsNothing}
use Rattle.gh_smt.specs.Texts.{assertion_text, foot_text}
use Rattle.gh_smt.specs.Reading.{IsSpelledAssertion, SpellsAssertion}
use Rattle.gh_log.proofs.Exits.{exit}
use Rattle.gh_smt.proofs.ItemLemmas.{no_item, goes_item, goes_end}
use Rattle.gh_smt.proofs.AssertionLemmas.{are_assertions}
use Rattle.gh_smt.proofs.reading.read_assertions.Goals as goal

pub returns-then-skip : goal.returns-then-skip
returns-then-skip c =
    goes_end assertion_text (IsSpelledAssertion c.args.sizes) foot_text c.args.reader.now.rest.now
    c.assertions.reader.rest.now c.skip.new.self.rest.now c.assertions.asserted.items c.assertions.invariant
    c.if-skip.ensures

pub returns-in_err-read_assertion : goal.returns-in_err-read_assertion
returns-in_err-read_assertion c =
    let s = c.args.sizes in
    exit _ _ _ _ _ _ (λ h. c.assertions.invariant.back
    (no_item assertion_text (IsSpelledAssertion s) foot_text (SpellsAssertion s) (are_assertions s)
    c.assertions.reader.rest.now c.if-skip.ensures.1
    (subst (λ t. SpellsNothing (SpellsAssertion s t)) c.if-skip.ensures.0 h))) c.in_err-read_assertion.ensures
    c.from_residual.ensures.1

pub assertions-preserved : goal.assertions-preserved
assertions-preserved c =
    let s = c.args.sizes in let a = c.in_ok-read_assertion.field-0 in
    goes_item assertion_text (IsSpelledAssertion s) foot_text (SpellsAssertion s) (are_assertions s)
    c.args.reader.now.rest.now c.assertions.reader.rest.now c.read_assertion.new.reader.rest.now
    c.assertions.asserted.items _ a
    c.assertions.invariant (subst (λ t. SpellsAssertion s t a c.read_assertion.new.reader.rest.now) c.if-skip.ensures.0
    c.in_ok-read_assertion.ensures) c.in_ok-push.ensures.items
