use Rattle.std.proofs.Common.{◌≡◌, drop, take}
use Rattle.gh_assert.specs.Stores.{listed_names}
use Rattle.gh_draw.specs.Reading.{ShowsEntries}
use Rattle.gh_draw.proofs.Going.{Goes}
use Rattle.gh_draw.proofs.reading.read_values.Given as goal

abbrev pub invariant-loop-name : goal.invariant-loop-name
invariant-loop-name l = record {
  goes : Goes (ShowsEntries (drop l.name-index l.names) l.cursor.text.now)
      (ShowsEntries l.names l.initial.cursor.text.now) l.store;
  listed : listed_names l.store ≡ take l.name-index l.names;
}
