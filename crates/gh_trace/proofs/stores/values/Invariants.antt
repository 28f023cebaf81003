use Rattle.std.proofs.Common.{◌≡◌, take, map}
use Rattle.gh_ast.specs.Programs.{names}
use Rattle.gh_assert.specs.Stores.{store_of}
use Rattle.gh_trace.proofs.stores.values.Given as goal

abbrev pub invariant-loop-occurrence : goal.invariant-loop-occurrence
invariant-loop-occurrence l = l.values.items ≡ map (store_of l.store) (names (take l.occurrence-index l.occurrences))
