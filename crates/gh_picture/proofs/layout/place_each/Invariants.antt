use Rattle.std.specs.Prelude.{◌≤◌, ◌+◌, take}
use Rattle.gh_picture.specs.Placing.{AllBegin, EachStands, HasLines}
use Rattle.gh_picture.proofs.layout.place_each.Given as goal

abbrev pub invariant-loop-from : goal.invariant-loop-from
invariant-loop-from l = record {
  lines : HasLines l.cells l.spots l.line;
  begun : AllBegin l.order l.spots l.line;
  all : EachStands l.spots (take l.from-index l.order);
  few : l.line ≤ l.from-index + 1;
}
