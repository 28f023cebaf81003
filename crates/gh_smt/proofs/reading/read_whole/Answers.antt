use Rattle.std.proofs.Common.{refl, sym, subst}
use Rattle.gh_base.specs.declared.sizes.Sizes.{Sizes}
use Rattle.gh_smt.specs.Reading.{SpellsScript}
use Rattle.gh_log.proofs.Exits.{exit}
use Rattle.gh_smt.proofs.ReadingLemmas.{script_read, no_head, no_terms, no_versions, no_defs, no_asserted}
use Rattle.gh_smt.proofs.reading.read_whole.Goals as goal

pub returns-then-not-skip : goal.returns-then-not-skip
returns-then-not-skip c = no_head c.args.reader.now.rest.now c.if-not-skip.ensures.1

pub returns-in_err-terms : goal.returns-in_err-terms
returns-in_err-terms c =
    exit _ _ _ _ _ _ (no_terms c.args.reader.now.rest.now c.skip.new.self.rest.now c.if-not-skip.ensures)
    c.in_err-terms.ensures c.from_residual.ensures.1

pub returns-in_err-versions : goal.returns-in_err-versions
returns-in_err-versions c =
    exit _ _ _ _ _ _ (no_versions c.args.reader.now.rest.now c.skip.new.self.rest.now
    c.count_declared.new.reader.rest.now c.in_ok-terms.terms c.if-not-skip.ensures c.in_ok-terms.ensures)
    c.in_err-versions.ensures
    c.from_residual-in_err-versions.ensures.1

pub returns-in_err-defs : goal.returns-in_err-defs
returns-in_err-defs c =
    exit _ _ _ _ _ _ (no_defs c.args.reader.now.rest.now c.skip.new.self.rest.now c.count_declared.new.reader.rest.now
    c.count_declared-2.new.reader.rest.now c.in_ok-terms.terms c.in_ok-versions.versions c.if-not-skip.ensures
    c.in_ok-terms.ensures
    c.in_ok-versions.ensures) c.in_err-defs.ensures c.from_residual-in_err-defs.ensures.1

pub returns-in_err-asserted : goal.returns-in_err-asserted
returns-in_err-asserted c =
    let s : Sizes = record {
      terms = c.in_ok-terms.terms;
      versions = c.in_ok-versions.versions;
      defs = c.in_ok-defs.defs;
    } in
    exit _ _ _ _ _ _ (no_asserted c.args.reader.now.rest.now c.skip.new.self.rest.now
    c.count_declared.new.reader.rest.now c.count_declared-2.new.reader.rest.now
    c.count_declared-3.new.reader.rest.now s c.in_ok-terms.terms c.in_ok-versions.versions
    c.in_ok-defs.defs refl refl refl c.if-not-skip.ensures c.in_ok-terms.ensures c.in_ok-versions.ensures
    c.in_ok-defs.ensures) c.in_err-asserted.ensures c.from_residual-in_err-asserted.ensures.1

pub returns : goal.returns
returns c =
    let s : Sizes = record {
      terms = c.in_ok-terms.terms;
      versions = c.in_ok-versions.versions;
      defs = c.in_ok-defs.defs;
    } in
    let text = c.args.reader.now.rest.now in let rest = c.read_assertions.new.reader.rest.now in
    subst (λ p. SpellsScript text p rest) (sym c.new.ensures)
    (script_read text c.skip.new.self.rest.now c.count_declared.new.reader.rest.now
    c.count_declared-2.new.reader.rest.now c.count_declared-3.new.reader.rest.now rest s c.in_ok-terms.terms
    c.in_ok-versions.versions c.in_ok-defs.defs
    c.in_ok-asserted.asserted.items refl refl refl c.if-not-skip.ensures c.in_ok-terms.ensures c.in_ok-versions.ensures
    c.in_ok-defs.ensures c.in_ok-asserted.ensures)
