use Rattle.std.proofs.Common.{◌≡◌, map, take}
use Rattle.gh_base.specs.Structures.{known_truth}
use Rattle.gh_base.proofs.structure.known_truths.Given as goal

abbrev pub invariant-loop-value : goal.invariant-loop-value
invariant-loop-value l = l.table.items ≡ map known_truth (take l.value-index l.values)
