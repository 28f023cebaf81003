use Rattle.gh_log.proofs.PositionLemmas.{goes_numbers_end, goes_number, no_numbers_here, no_number_here}
use Rattle.gh_log.proofs.Exits.{exit}
use Rattle.std.proofs.Common.{◌∙◌, sym, subst}
use Rattle.gh_log.specs.Reading.{IsNotNext}
use Rattle.gh_log.proofs.cursor.Reader.numbers.Goals as goal

pub returns-then-take : goal.returns-then-take
returns-then-take c =
    goes_numbers_end c.args.self.now.rest.now c.numbers.self.rest.now c.take.new.self.rest.now c.numbers.numbers.items
    c.numbers.invariant c.if-take.ensures

pub returns-then-not-take : goal.returns-then-not-take
returns-then-not-take c =
    c.numbers.invariant.back (no_numbers_here c.numbers.self.rest.now c.if-take.ensures.1
    (subst (IsNotNext 32) c.if-take.ensures.0 c.if-not-take.ensures.1))

pub returns-in_err-number : goal.returns-in_err-number
returns-in_err-number c =
    exit _ _ _ _ _ _ (λ h. c.numbers.invariant.back
    (no_number_here c.numbers.self.rest.now c.take-in-numbers.new.self.rest.now
    (sym c.if-take.ensures.0 ∙ c.if-not-take.ensures) h))
    c.in_err-number.ensures c.from_residual.ensures.1

pub numbers-preserved : goal.numbers-preserved
numbers-preserved c =
    goes_number c.args.self.now.rest.now c.numbers.self.rest.now c.take-in-numbers.new.self.rest.now _
    c.numbers.numbers.items _ c.in_ok-number.field-0 c.numbers.invariant
    (sym c.if-take.ensures.0 ∙ c.if-not-take.ensures) c.in_ok-number.ensures c.in_ok-push.ensures.items
