use Rattle.std.proofs.Common.{◌≡◌, ◌<◌, ◌+◌, Some, arith, sym, subst, length}
use Rattle.std.specs.Prelude.{slice_get, slice_index_or}
use Rattle.gh_base.specs.Atoms.{term}
use Rattle.gh_inst.specs.Schemas.{places_of}
use Rattle.gh_inst.proofs.SearchLemmas.{got, index_below}
use Rattle.gh_inst.proofs.WordLemmas.{hop_truths}
use Rattle.gh_inst.proofs.OpenLemmas.{not_among, lit_open}
use Rattle.gh_inst.proofs.schema.Pattern.next_hop.Goals as goal

pub returns-then-x-first : goal.returns-then-x-first
returns-then-x-first c = λ m version n words some below.
    let a = c.args in
    let three : length a.self.now.places ≡ 3 = search in
    let used : 0 < places_of a.self.now.shape = subst (λ s. 0 < places_of s) (sym c.requires.shape) (omega arith) in
    lit_open m version n a.self.now a.tuple.now a.first (words.few (omega (arith, c.requires.full)))
    (λ among. absurd (not_among a.first 0 a.self.now three used c.if-x-first.true among))

pub bounds-words-tuple : goal.bounds-words-tuple
bounds-words-tuple c =
    let a = c.args in
    let small =
    index_below a.first 32 a.tuple.now (slice_index_or a.self.now.places 0 0) (omega arith)
    (omega (arith, c.requires)) c.requires.terms in
    omega (arith, small, c.requires.full)

pub returns : goal.returns
returns c = λ m version n words some below.
    let a = c.args in
    let x = (slice_index_or a.tuple.now (slice_index_or a.self.now.places 0 0) (term 0)).0 in
    let small =
    index_below a.first 32 a.tuple.now (slice_index_or a.self.now.places 0 0) (omega arith)
    (omega (arith, c.requires)) c.requires.terms in
    let word = slice_index_or a.words.now (1056 + x) 0 in
    let there : slice_get a.words.now (1056 + x) ≡ Some word =
    got a.words.now (1056 + x) 0 (omega (arith, small, c.requires.full)) in
    c.next_by.ensures m version n (words.few (omega (arith, c.requires.full))) some below
    (hop_truths m version n a.first word a.words.now a.tuple.now a.self.now words c.requires.shape c.if-x-first.false
    (omega (arith, c.requires)) below there)
