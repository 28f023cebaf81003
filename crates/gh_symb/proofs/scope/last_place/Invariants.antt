use Rattle.std.proofs.Common.{◌≤◌, length}
use Rattle.gh_symb.specs.Tables.{NoneFrom}
use Rattle.gh_symb.proofs.scope.last_place.Given as goal

abbrev pub invariant-loop-left : goal.invariant-loop-left
invariant-loop-left l = record {
  within : l.left ≤ length l.entries;
  none : NoneFrom l.entries l.name l.left;
}

abbrev pub decreases-loop-left : goal.decreases-loop-left
decreases-loop-left l = l.left
