use Rattle.std.proofs.Common.{arith, subst}
use Rattle.std.specs.Prelude.{All}
use Rattle.std.proofs.lemmas.Grind.{common_steps}
use Rattle.gh_assert.specs.declared.store.Entry.{Entry}
use Rattle.gh_draw.specs.Drawn.{IsValue}
use Rattle.gh_draw.proofs.Values.{one_more, all_done}
use Rattle.gh_draw.proofs.drawing.push_store.Goals as goal

pub loop-entry-preserved : goal.loop-entry-preserved
loop-entry-preserved c = record {
  text = grind (arith, common_steps);
  values =
      one_more (λ (e : Entry). IsValue e.value) c.entries-entry-items.result.now c.loop-entry.entry-index
      c.entry-item.result c.entry-item.is c.loop-entry-test.true c.loop-entry.invariant.values
      c.in_ok-push_entry.ensures.value;
}

pub returns-clause-values : goal.returns-clause-values
returns-clause-values c =
    subst (λ es. All (λ (e : Entry). IsValue e.value) es) c.entries-entry-items.ensures.same
    (all_done (λ (e : Entry). IsValue e.value) c.entries-entry-items.result.now c.loop-entry.entry-index
    c.loop-entry-test.false c.loop-entry.invariant.values)
