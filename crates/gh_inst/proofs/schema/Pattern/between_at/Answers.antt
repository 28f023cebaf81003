use Rattle.std.proofs.Common.{arith, refl}
use Rattle.std.specs.Prelude.{slice_index_or}
use Rattle.gh_inst.specs.Words.{IsPair}
use Rattle.gh_inst.proofs.SearchLemmas.{index_below}
use Rattle.gh_inst.proofs.WordLemmas.{pair_truths, reach_truths}
use Rattle.gh_inst.proofs.schema.Pattern.between_at.Goals as goal

pub returns-then-y-self-clause-some : goal.returns-then-y-self-clause-some
returns-then-y-self-clause-some c = λ m version n word words are below there.
    let a = c.args in
    reach_truths m version n a.first word words a.tuple.now a.self.now are c.requires.shape c.if-y-self.true
    c.if-x-first.false (omega (arith, c.requires)) below there

pub returns-then-y-self-clause-below : goal.returns-then-y-self-clause-below
returns-then-y-self-clause-below c =
    let a = c.args in
    let x =
    index_below a.first 32 a.tuple.now (slice_index_or a.self.now.places 0 0) c.if-x-first.false
    (omega (arith, c.requires)) c.requires.terms in
    omega (arith, x)

pub returns-clause-some : goal.returns-clause-some
returns-clause-some c = λ m version n word words are below there.
    let a = c.args in
    let pair : IsPair a.self.now a.tuple.now a.first _ =
    record {
      shape = c.requires.shape;
      x_known = c.if-x-first.false;
      y_known = c.if-y-first.false;
      place_is = refl;
    } in
    pair_truths m version n a.first _ word words a.tuple.now a.self.now are pair (omega (arith, c.requires)) below there

pub returns-clause-below : goal.returns-clause-below
returns-clause-below c =
    let a = c.args in
    let x =
    index_below a.first 32 a.tuple.now (slice_index_or a.self.now.places 0 0) c.if-x-first.false
    (omega (arith, c.requires)) c.requires.terms in
    let y =
    index_below a.first 32 a.tuple.now (slice_index_or a.self.now.places 1 0) c.if-y-first.false
    (omega (arith, c.requires)) c.requires.terms in
    omega (arith, x, y)
