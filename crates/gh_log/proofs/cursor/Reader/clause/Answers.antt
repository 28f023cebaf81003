use Rattle.gh_log.proofs.AtomLemmas.{feed_ends, goes_end, goes_lit, no_clause_here, no_lit_here}
use Rattle.gh_log.proofs.Exits.{exit}
use Rattle.std.proofs.Common.{◌∙◌, sym, subst}
use Rattle.gh_log.specs.Reading.{IsNotNext}
use Rattle.gh_log.proofs.cursor.Reader.clause.Goals as goal

pub returns-then-take : goal.returns-then-take
returns-then-take c =
    goes_end _ c.args.self.now.rest.now c.literals.self.rest.now c.take.new.self.rest.now c.literals.clause.items
    c.literals.invariant c.if-take.ensures

pub returns-then-not-take : goal.returns-then-not-take
returns-then-not-take c =
    c.literals.invariant.back
    (no_clause_here c.literals.self.rest.now c.if-take.ensures.1
    (subst (IsNotNext 32) c.if-take.ensures.0 c.if-not-take.ensures.1))

pub returns-in_err-lit : goal.returns-in_err-lit
returns-in_err-lit c =
    exit _ _ _ _ _ _ (λ h. c.literals.invariant.back
    (no_lit_here c.literals.self.rest.now c.take-in-literals.new.self.rest.now
    (sym c.if-take.ensures.0 ∙ c.if-not-take.ensures) h))
    c.in_err-lit.ensures c.from_residual.ensures.1

pub literals-preserved : goal.literals-preserved
literals-preserved c =
    goes_lit _ feed_ends c.args.self.now.rest.now c.literals.self.rest.now c.take-in-literals.new.self.rest.now _
    c.literals.clause.items _ c.in_ok-lit.field-0 c.literals.invariant
    (sym c.if-take.ensures.0 ∙ c.if-not-take.ensures) c.in_ok-lit.ensures c.in_ok-push.ensures.items
