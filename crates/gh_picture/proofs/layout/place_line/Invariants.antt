use Rattle.std.specs.Prelude.{◌≡◌, ◌⊎◌, None, is_none, IsSome}
use Rattle.std.specs.List.{count_by}
use Rattle.gh_picture.specs.Placing.{IsLineBegun, IsOnLine, StillStands, spot_on}
use Rattle.gh_picture.proofs.layout.place_line.Given as goal

abbrev pub invariant-loop-spots : goal.invariant-loop-spots
invariant-loop-spots l = record {
  begun : IsLineBegun l.cells l.spots l.line l.column l.at;
  kept : StillStands l.initial.spots l.spots;
  from : (l.at ≡ l.from) ⊎ IsSome (spot_on l.spots l.from);
  begins : spot_on l.initial.spots l.from ≡ None → IsOnLine l.spots l.line l.from l.at l.column;
}

abbrev pub decreases-loop-spots : goal.decreases-loop-spots
decreases-loop-spots l = count_by is_none l.spots
