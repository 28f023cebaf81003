use Rattle.std.proofs.Common.{◌≡◌, ◌∙◌, sym, subst}
use Rattle.gh_ast.specs.Plain.{assertion_of}
use Rattle.gh_assert.specs.Heaps.{Splits}
use Rattle.gh_assert.specs.Meaning.{Meaning}
use Rattle.gh_assert.specs.Stores.{store_of}
use Rattle.gh_assert.specs.Footprints.{Takes}
use Rattle.gh_assert.proofs.meaning.footprint.Goals as goal

pub returns-clause-found : goal.returns-clause-found
returns-clause-found c =
    let s = store_of c.args.store.now in
    let f = assertion_of c.args.assertion.now in
    let left = c.take_part.new.remaining.1 in
    let took : Takes (Meaning f s) c.args.heap.now left =
    subst (λ h. Takes (Meaning f s) h left) c.in_ok-remaining.ensures.all c.if-not-take_part.ensures.part in
    let whole : c.args.heap.now ≡ c.take_part.new.remaining.0 =
    sym (c.if-not-take_part.ensures.whole ∙ c.in_ok-remaining.ensures.whole) in
    record {
      part = took.part;
      rest = left;
      splits = took.splits;
      meets = took.meets;
      places_are = c.in_ok-places.ensures took.part (subst (λ h. Splits h took.part left) whole took.splits);
    }
