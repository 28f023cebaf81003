use Rattle.std.proofs.Common.{◌≡◌, take}
use Rattle.gh_ast.specs.Programs.{names}
use Rattle.gh_assert.specs.Stores.{listed_names, store_of}
use Rattle.gh_assert.specs.Values.{Gets}
use Rattle.gh_machine.proofs.stores.assign.Given as goal

abbrev pub invariant-loop-i : goal.invariant-loop-i
invariant-loop-i l =
    Gets (store_of l.fn.store) (names (take l.i l.targets)) (take l.i l.values) (store_of l.store)
    × (listed_names l.store ≡ listed_names l.fn.store)
