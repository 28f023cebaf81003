use Rattle.gh_log.proofs.AtomLemmas.{sign_ends, goes_end, goes_lit, no_shown_here, no_shown_lit}
use Rattle.gh_log.proofs.Exits.{exit}
use Rattle.std.proofs.Common.{◌∙◌, ap, ◌∷◌, subst}
use Rattle.gh_log.specs.Reading.{SpellsNothing, SpellsLit}
use Rattle.gh_log.proofs.cursor.Reader.shown.Goals as goal

pub returns-then-not-take : goal.returns-then-not-take
returns-then-not-take c = c.literals.invariant.back (no_shown_here c.literals.self.rest.now c.if-not-take.ensures.1)

pub returns-then-take : goal.returns-then-take
returns-then-take c =
    goes_end _ c.args.self.now.rest.now c.literals.self.rest.now c.take-in-literals.new.self.rest.now
    c.literals.clause.items c.literals.invariant
    (c.if-not-take.ensures ∙ ap (λ t. 32 ∷ t) c.if-take.ensures)

pub returns-in_err-lit : goal.returns-in_err-lit
returns-in_err-lit c =
    exit _ _ _ _ _ _ (λ h. c.literals.invariant.back
    (no_shown_lit c.literals.self.rest.now c.take.new.self.rest.now c.if-not-take.ensures c.if-take.ensures.1
    (subst (λ t. SpellsNothing (SpellsLit t)) c.if-take.ensures.0 h)))
    c.in_err-lit.ensures c.from_residual.ensures.1

pub literals-preserved : goal.literals-preserved
literals-preserved c =
    goes_lit _ sign_ends c.args.self.now.rest.now c.literals.self.rest.now c.take.new.self.rest.now _
    c.literals.clause.items _ c.in_ok-lit.field-0 c.literals.invariant
    c.if-not-take.ensures (subst (λ t. SpellsLit t c.in_ok-lit.field-0 c.lit.new.self.rest.now) c.if-take.ensures.0
    c.in_ok-lit.ensures) c.in_ok-push.ensures.items
