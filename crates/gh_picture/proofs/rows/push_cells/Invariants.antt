use Rattle.std.proofs.Common.{◌≡◌, ◌++◌, drop}
use Rattle.gh_picture.specs.Rows.{cell_groups}
use Rattle.gh_picture.proofs.rows.push_cells.Given as goal

abbrev pub invariant-loop-number : goal.invariant-loop-number
invariant-loop-number l =
    l.groups ++ cell_groups l.roles l.cells l.spots l.number (drop l.number l.cells)
    ≡ l.initial.groups ++ cell_groups l.roles l.cells l.spots 0 l.cells
