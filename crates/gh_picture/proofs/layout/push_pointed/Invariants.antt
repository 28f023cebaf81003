use Rattle.std.proofs.Common.{◌≡◌, ◌++◌, drop}
use Rattle.gh_picture.specs.Spots.{pointed}
use Rattle.gh_picture.proofs.layout.push_pointed.Given as goal

abbrev pub invariant-loop-entry : goal.invariant-loop-entry
invariant-loop-entry l =
    l.order.items ++ pointed l.cells (drop l.entry-index l.entries) ≡ l.initial.order.items ++ pointed l.cells l.entries
