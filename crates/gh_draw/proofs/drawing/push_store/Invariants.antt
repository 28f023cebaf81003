use Rattle.std.proofs.Common.{◌≡◌, ◌++◌, drop, take}
use Rattle.std.specs.Prelude.{All}
use Rattle.std.specs.List.{flat_map}
use Rattle.gh_draw.specs.Drawn.{entry_text, IsValue}
use Rattle.gh_draw.proofs.drawing.push_store.Given as goal

abbrev pub invariant-loop-entry : goal.invariant-loop-entry
invariant-loop-entry l = record {
  text : l.out ++ flat_map entry_text (drop l.entry-index l.entry-items)
      ≡ l.initial.out ++ flat_map entry_text l.entry-items;
  values : All (λ e. IsValue e.value) (take l.entry-index l.entry-items);
}
