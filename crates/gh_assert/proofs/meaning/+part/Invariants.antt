use Rattle.std.proofs.Common.{◌≡◌, drop}
use Rattle.gh_ast.specs.Plain.{assertions_view}
use Rattle.gh_assert.specs.Meaning.{MeaningAll}
use Rattle.gh_assert.specs.Stores.{store_of}
use Rattle.gh_assert.proofs.Taking.{GoesOn}
use Rattle.gh_assert.proofs.meaning.+part.Given as goal

abbrev pub invariant-take_parts-loop-member : goal.invariant-take_parts-loop-member
invariant-take_parts-loop-member l = record {
  whole : l.remaining.0 ≡ l.initial.remaining.0;
  goes : GoesOn (MeaningAll (assertions_view l.members) (store_of l.store))
      (MeaningAll (assertions_view (drop l.member-index l.members)) (store_of l.store)) l.initial.remaining.1
      l.remaining.1;
}
