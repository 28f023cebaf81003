use Rattle.std.proofs.Common.{◌≡◌, Some, arith}
use Rattle.std.specs.Prelude.{slice_get, slice_index_or}
use Rattle.gh_inst.proofs.SearchLemmas.{got}
use Rattle.gh_inst.proofs.OpenLemmas.{lit_open}
use Rattle.gh_inst.proofs.schema.Pattern.next_between.Goals as goal

pub returns-in-Some : goal.returns-in-Some
returns-in-Some c = λ m version n words some below.
    let a = c.args in
    let word = slice_index_or a.words.now c.in-Some.at 0 in
    let there : slice_get a.words.now c.in-Some.at ≡ Some word =
    got a.words.now c.in-Some.at 0 (omega (arith, c.requires.full, (c.in-Some.ensures {u = tt}).below)) in
    c.next_by.ensures m version n (words.few (omega (arith, c.requires.full))) some below
    ((c.in-Some.ensures {u = tt}).some m version n word a.words.now words below there)

pub returns-in-None : goal.returns-in-None
returns-in-None c = λ m version n words some below.
    let a = c.args in
    lit_open m version n a.self.now a.tuple.now a.first (words.few (omega (arith, c.requires.full)))
    (λ among. absurd (c.between_at.ensures.none c.in-None.is among))
