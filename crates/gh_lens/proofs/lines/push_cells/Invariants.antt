use Rattle.std.proofs.Common.{◌≡◌, ◌++◌, drop}
use Rattle.std.specs.List.{flat_map}
use Rattle.gh_lens.specs.Lines.{cell_line}
use Rattle.gh_lens.proofs.lines.push_cells.Given as goal

abbrev pub invariant-loop-change : goal.invariant-loop-change
invariant-loop-change l =
    l.text ++ (flat_map cell_line (drop l.change-index l.changes)) ≡ l.initial.text ++ (flat_map cell_line l.changes)
