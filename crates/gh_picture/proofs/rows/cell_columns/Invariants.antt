use Rattle.std.proofs.Common.{◌≡◌, drop}
use Rattle.gh_picture.specs.Rows.{columns_from, cell_columns}
use Rattle.gh_picture.proofs.rows.cell_columns.Given as goal

abbrev pub invariant-loop-spot : goal.invariant-loop-spot
invariant-loop-spot l = columns_from l.columns (drop l.spot-index l.spots) ≡ cell_columns l.spots
