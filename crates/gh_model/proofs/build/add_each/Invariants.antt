use Rattle.std.proofs.Common.{◌++◌, drop}
use Rattle.gh_ast.specs.Programs.{names}
use Rattle.gh_model.specs.KeptTraces.{entries_under, store_in}
use Rattle.gh_model.proofs.building.Stores.{GoesOn}
use Rattle.gh_model.proofs.build.add_each.Given as goal

abbrev pub invariant-loop-occurrence : goal.invariant-loop-occurrence
invariant-loop-occurrence l =
    let S = store_in l.structure l.binding in
    GoesOn S (l.initial.store ++ entries_under S (names l.occurrences)) l.store (drop l.occurrence-index l.occurrences)
