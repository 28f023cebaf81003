use Rattle.std.proofs.Common.{subst}
use Rattle.gh_log.specs.Reading.{SpellsNothing}
use Rattle.gh_smt.specs.Texts.{spaced_lit}
use Rattle.gh_smt.specs.Reading.{IsSpelledLit, SpellsSpaced, lits_end}
use Rattle.gh_log.proofs.Exits.{exit}
use Rattle.gh_smt.proofs.ItemLemmas.{no_item, goes_item, goes_end}
use Rattle.gh_smt.proofs.LitLemmas.{are_lits}
use Rattle.gh_smt.proofs.literals.read_lits.Goals as goal

pub returns-then-skip : goal.returns-then-skip
returns-then-skip c =
    goes_end spaced_lit (IsSpelledLit c.args.sizes) lits_end c.args.reader.now.rest.now c.literals.reader.rest.now
    c.skip.new.self.rest.now c.literals.clause c.literals.invariant c.if-skip.ensures

pub returns-in_err-read_spaced : goal.returns-in_err-read_spaced
returns-in_err-read_spaced c =
    let s = c.args.sizes in
    exit _ _ _ _ _ _ (λ h. c.literals.invariant.back
    (no_item spaced_lit (IsSpelledLit s) lits_end (SpellsSpaced s) (are_lits s) c.literals.reader.rest.now
    c.if-skip.ensures.1
    (subst (λ t. SpellsNothing (SpellsSpaced s t)) c.if-skip.ensures.0 h))) c.in_err-read_spaced.ensures
    c.from_residual.ensures.1

pub literals-preserved : goal.literals-preserved
literals-preserved c =
    let s = c.args.sizes in let l = c.in_ok-read_spaced.field-0 in
    goes_item spaced_lit (IsSpelledLit s) lits_end (SpellsSpaced s) (are_lits s) c.args.reader.now.rest.now
    c.literals.reader.rest.now c.read_spaced.new.reader.rest.now c.literals.clause _ l c.literals.invariant
    (subst (λ t. SpellsSpaced s t l c.read_spaced.new.reader.rest.now) c.if-skip.ensures.0 c.in_ok-read_spaced.ensures)
    c.in_ok-push.ensures.ok
