use Rattle.std.proofs.Common.{◌≡◌, ◌++◌, drop}
use Rattle.gh_assert.specs.Stores.{store_of}
use Rattle.gh_scene.specs.Roles.{changes_of}
use Rattle.gh_scene.proofs.roles.changes_of.Given as goal

abbrev pub invariant-loop-entry : goal.invariant-loop-entry
invariant-loop-entry l =
    l.changes.items ++ changes_of (store_of l.old) (drop l.entry-index l.entry-items)
    ≡ changes_of (store_of l.old) l.new
