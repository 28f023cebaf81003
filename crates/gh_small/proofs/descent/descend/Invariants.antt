use Rattle.std.proofs.Common.{◌≡◌}
use Rattle.std.specs.FinMap.{len}
use Rattle.gh_small.specs.Models.{IsModelled, first_heap}
use Rattle.gh_small.proofs.DescentLemmas.{HasRoomFrom}
use Rattle.gh_small.proofs.descent.descend.Given as goal

abbrev pub invariant-loop-cells : goal.invariant-loop-cells
invariant-loop-cells l = record {
  model : IsModelled l.ground l.structure;
  count : l.cells ≡ len (first_heap l.structure);
  room : HasRoomFrom l.ground l.cells l.fn.first;
}

abbrev pub decreases-loop-cells : goal.decreases-loop-cells
decreases-loop-cells l = l.cells
