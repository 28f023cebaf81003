use Rattle.std.proofs.Common.{◌≡◌, arith, sym, ◌∙◌, length}
use Rattle.std.specs.Prelude.{slice_index_or}
use Rattle.std.proofs.lemmas.Nat.Bits.{shr_and_one}
use Rattle.gh_base.specs.Atoms.{term}
use Rattle.gh_inst.proofs.SearchLemmas.{index_below}
use Rattle.gh_inst.proofs.OpenLemmas.{not_among, lit_open, term_true, term_false, term_next, term_none}
use Rattle.gh_inst.proofs.schema.Pattern.next_by.Goals as goal

pub overflow_shr-left : goal.overflow_shr-left
overflow_shr-left c =
    let a = c.args in
    index_below a.first 32 a.tuple.now (slice_index_or a.self.now.places a.place 0) (omega arith)
    (omega (arith, c.requires)) c.requires.terms

pub returns-then-left-tuple-eq0 : goal.returns-then-left-tuple-eq0
returns-then-left-tuple-eq0 c = λ m version n few some below truths.
    let a = c.args in
    let left = c.false_terms-left.result in
    term_true m version n a.first a.place a.self.now a.tuple.now left
    (c.false_terms-left.ensures m version n a.tuple.now a.first a.place few truths) (omega (arith, c.requires))
    below c.if-z-first.true
    (sym (shr_and_one left (slice_index_or a.tuple.now (slice_index_or a.self.now.places a.place 0) (term 0)).0)
    ∙ c.if-left-tuple-eq0.true)

pub returns-then-z-first : goal.returns-then-z-first
returns-then-z-first c = λ m version n few some below truths.
    let a = c.args in
    let left = c.false_terms-left.result in
    term_false m version n a.first a.place a.self.now a.tuple.now left
    (c.false_terms-left.ensures m version n a.tuple.now a.first a.place few truths) (omega (arith, c.requires)) few
    below c.if-z-first.true
    (λ e. c.if-left-tuple-eq0.false
    (shr_and_one left (slice_index_or a.tuple.now (slice_index_or a.self.now.places a.place 0) (term 0)).0 ∙ e))

pub returns-then-z-first-2 : goal.returns-then-z-first-2
returns-then-z-first-2 c = λ m version n few some below truths.
    let a = c.args in
    let left = c.false_terms-left.result in
    let three : length a.self.now.places ≡ 3 = search in
    let is = c.false_terms-left.ensures m version n a.tuple.now a.first a.place few truths in
    term_next m version n a.first a.place a.self.now a.tuple.now left is c.if-z-first-2.true
    (not_among a.first a.place a.self.now three is.used c.if-z-first.false)

pub returns-then-left-eq0 : goal.returns-then-left-eq0
returns-then-left-eq0 c = λ m version n few some below truths.
    let a = c.args in
    term_none m version n a.first a.place a.self.now a.tuple.now c.false_terms-left.result
    (c.false_terms-left.ensures m version n a.tuple.now a.first a.place few truths) c.if-left-eq0.true some below

pub returns : goal.returns
returns c = λ m version n few some below truths.
    let a = c.args in
    let three : length a.self.now.places ≡ 3 = search in
    lit_open m version n a.self.now a.tuple.now a.first few
    (λ among. absurd (not_among a.first a.place a.self.now three truths.used c.if-z-first.false among))
