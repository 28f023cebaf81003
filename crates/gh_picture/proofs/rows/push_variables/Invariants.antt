use Rattle.std.proofs.Common.{◌≡◌, ◌++◌, drop}
use Rattle.gh_picture.specs.Rows.{variable_groups}
use Rattle.gh_picture.proofs.rows.push_variables.Given as goal

abbrev pub invariant-loop-number : goal.invariant-loop-number
invariant-loop-number l =
    l.groups ++ variable_groups l.changes l.cells l.spots l.entries l.number (drop l.number l.entries)
    ≡ l.initial.groups ++ variable_groups l.changes l.cells l.spots l.entries 0 l.entries
