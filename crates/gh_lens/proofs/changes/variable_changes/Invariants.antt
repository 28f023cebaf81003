use Rattle.std.proofs.Common.{◌≡◌, ◌++◌, drop}
use Rattle.gh_assert.specs.Stores.{store_of}
use Rattle.gh_lens.specs.Changes.{variable_changes}
use Rattle.gh_lens.proofs.changes.variable_changes.Given as goal

abbrev pub invariant-loop-entry : goal.invariant-loop-entry
invariant-loop-entry l =
    l.all.items ++ variable_changes (drop l.entry-index l.entry-items) (store_of l.new)
    ≡ variable_changes l.old (store_of l.new)
