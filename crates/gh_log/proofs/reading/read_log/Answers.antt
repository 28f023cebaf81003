use Rattle.std.proofs.Common.{◌≡◌, ◌+◌, ap, length, subst, arith}
use Rattle.gh_log.specs.Spelled.{IsLogRefusal}
use Rattle.gh_log.specs.Reading.{SpellsVersion, SpellsSection, IsSectionRefusal}
use Rattle.gh_log.proofs.PlaceLemmas.{at_line, no_first_line, up_to_fits, section_fits, up_to_more, up_to_spelled}
use Rattle.gh_log.proofs.PlaceLemmas.{refused_after, some_left}
use Rattle.gh_log.proofs.Exits.{if_err}
use Rattle.gh_log.proofs.reading.read_log.Goals as goal

pub returns-in-Err-clause-refused : goal.returns-in-Err-clause-refused
returns-in-Err-clause-refused c =
    let text = c.args.text.now in
    at_line (SpellsVersion text) (IsLogRefusal text) c.in-Err.refusal 1 c.at.result c.in-Err.ensures
    (no_first_line text) tt c.at.ensures

pub overflow_cast-len : goal.overflow_cast-len
overflow_cast-len c =
    let fits =
    up_to_fits c.args.text.now _ c.sections.sections.items c.sections.at c.sections.reader.rest.now
    c.sections.invariant c.requires in
    omega (arith, fits.1, c.len.ensures, c.sections.sections.ok.0)

pub overflow_add-len : goal.overflow_add-len
overflow_add-len c =
    let fits =
    up_to_fits c.args.text.now _ c.sections.sections.items c.sections.at c.sections.reader.rest.now
    c.sections.invariant c.requires in
    omega (arith, fits.1, c.len.ensures, c.sections.sections.ok.0)

pub section-requires-clause-small : goal.section-requires-clause-small
section-requires-clause-small c =
    (up_to_fits c.args.text.now _ c.sections.sections.items c.sections.at c.sections.reader.rest.now
    c.sections.invariant c.requires).0

pub section-requires-clause-version : goal.section-requires-clause-version
section-requires-clause-version c = c.sections.invariant.version_is

pub returns-in_err-section-clause-refused : goal.returns-in_err-section-clause-refused
returns-in_err-section-clause-refused c =
    let text = c.args.text.now in let ss = c.sections.sections.items in let rest = c.sections.reader.rest.now in
    let e = c.in_err-section.field-0.0 in
    let n : c.len.result ≡ length ss = omega (arith, c.len.ensures, c.sections.sections.ok.0) in
    if_err (IsLogRefusal text) c.from_residual.result e
    (refused_after text _ ss c.sections.at rest e c.sections.invariant
    (some_left (length rest) c.is_empty.result c.is_empty.ensures c.sections-test.true) c.requires
    (subst (λ k. IsSectionRefusal c.in-Ok.version (k + 1) c.sections.at rest e) n c.in_err-section.ensures.refused))
    c.from_residual.ensures.1

pub overflow_cast-at : goal.overflow_cast-at
overflow_cast-at c =
    let fits =
    up_to_fits c.args.text.now _ c.sections.sections.items c.sections.at c.sections.reader.rest.now
    c.sections.invariant c.requires in
    let s = c.in_ok-section.section in
    let small =
    section_fits _ (c.len.result + 1) c.sections.at c.sections.reader.rest.now s c.section.new.self.rest.now
    c.in_ok-section.ensures.read fits.0 in
    omega (arith, small, c.len-in-sections.ensures)

pub overflow_add-at : goal.overflow_add-at
overflow_add-at c =
    let fits =
    up_to_fits c.args.text.now _ c.sections.sections.items c.sections.at c.sections.reader.rest.now
    c.sections.invariant c.requires in
    let s = c.in_ok-section.section in
    let small =
    section_fits _ (c.len.result + 1) c.sections.at c.sections.reader.rest.now s c.section.new.self.rest.now
    c.in_ok-section.ensures.read fits.0 in
    omega (arith, small, c.len-in-sections.ensures)

pub sections-preserved : goal.sections-preserved
sections-preserved c =
    let text = c.args.text.now in let ss = c.sections.sections.items in let rest = c.sections.reader.rest.now in
    let s = c.in_ok-section.section in
    let left = c.section.new.self.rest.now in
    let n : c.len.result ≡ length ss = omega (arith, c.len.ensures, c.sections.sections.ok.0) in
    let lines : c.len-in-sections.result ≡ length s.lines = omega (arith, c.len-in-sections.ensures) in
    up_to_more text _ ss c.push.new.self.items c.sections.at (s.first + c.len-in-sections.result) rest left s
    c.sections.invariant
    (subst (λ k. SpellsSection c.in-Ok.version (k + 1) c.sections.at rest s left) n c.in_ok-section.ensures.read)
    c.in_ok-push.ensures.items (ap (λ k. s.first + k) lines)

pub returns-clause-spelled : goal.returns-clause-spelled
returns-clause-spelled c =
    up_to_spelled c.args.text.now _ c.sections.sections.items c.sections.at c.sections.reader.rest.now
    c.sections.invariant c.requires
