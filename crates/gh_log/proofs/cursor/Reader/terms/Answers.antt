use Rattle.std.proofs.Common.{◌≡◌, [], ◌∷◌, subst, refl, take, arith}
use Rattle.gh_base.specs.Atoms.{term}
use Rattle.gh_log.specs.Reading.{SpellsNothing, SpellsBytes, SpellsTerms, ArePadded}
use Rattle.gh_log.proofs.LineLemmas.{goes_term, goes_terms_end, padded_none, padded_more, no_terms_here, no_fifth}
use Rattle.gh_log.proofs.Exits.{exit, not_ok}
use Rattle.gh_log.proofs.cursor.Reader.terms.Goals as goal

pub returns-then-take-clause-read : goal.returns-then-take-clause-read
returns-then-take-clause-read c =
    goes_terms_end c.loop-count.count c.args.self.now.rest.now c.loop-count.self.rest.now c.take.new.self.rest.now
    c.loop-count.terms c.loop-count.auto.count-end c.loop-count.invariant.goes c.if-take.ensures

pub returns-then-take-clause-padded : goal.returns-then-take-clause-padded
returns-then-take-clause-padded c = c.loop-count.invariant.padded

pub loop-count-init : goal.loop-count-init
loop-count-init c = record { goes = record { forth = λ ts rest s. s; back = λ h. h }; padded = padded_none }

pub loop-count-preserved : goal.loop-count-preserved
loop-count-preserved c =
    let b = c.in_ok-byte.field-0 in
    record {
      goes = goes_term c.loop-count.count c.args.self.now.rest.now c.loop-count.self.rest.now c.byte.new.self.rest.now
          c.loop-count.terms _ (term b) c.loop-count.invariant.goes
          (subst (λ t. SpellsBytes 32 1 t (b ∷ []) c.byte.new.self.rest.now) c.if-take.ensures.0 c.in_ok-byte.ensures)
          c.loop-count.invariant.padded c.loop-count-test.true refl;
      padded =
          padded_more c.loop-count.terms _ c.loop-count.count (term b) c.loop-count.invariant.padded
          c.loop-count-test.true refl;
    }

pub returns-in_err-byte : goal.returns-in_err-byte
returns-in_err-byte c =
    record {
      read = exit _ _ _ _ _ _ (λ h. c.loop-count.invariant.goes.back
          (no_terms_here c.loop-count.count c.loop-count.self.rest.now c.if-take.ensures.1
          (subst (λ t. SpellsNothing (SpellsBytes 32 1 t)) c.if-take.ensures.0 h))) c.in_err-byte.ensures
          c.from_residual.ensures.1;
      padded = not_ok _ _ c.from_residual.result c.from_residual.ensures.1;
    }

pub returns-then-not-take : goal.returns-then-not-take
returns-then-not-take c =
    record {
      read = c.loop-count.invariant.goes.back
          (no_fifth c.loop-count.count c.loop-count.self.rest.now c.loop-count-test.false c.if-not-take.ensures.1);
      padded = tt;
    }

pub returns : goal.returns
returns c =
    let four : c.loop-count.count ≡ 4 = omega (arith, c.loop-count.auto.count-end, c.loop-count-test.false) in
    record {
      read = subst (λ k. SpellsTerms 0 c.args.self.now.rest.now (take k c.loop-count.terms) c.take-2.new.self.rest.now)
          four
          (goes_terms_end c.loop-count.count c.args.self.now.rest.now c.loop-count.self.rest.now
          c.take-2.new.self.rest.now c.loop-count.terms c.loop-count.auto.count-end c.loop-count.invariant.goes
          c.if-not-take.ensures);
      padded = subst (ArePadded c.loop-count.terms) four c.loop-count.invariant.padded;
    }
