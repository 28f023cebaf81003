use Rattle.std.proofs.Common.{◌≡◌, map, drop}
use Rattle.gh_session.specs.Pieces.{value_of, all_placed, standing}
use Rattle.gh_session.proofs.edits.standing.Given as goal

abbrev pub invariant-loop-edit : goal.invariant-loop-edit
invariant-loop-edit l = all_placed (map value_of l.pieces.items) (drop l.edit-index l.edits) ≡ standing l.edits
