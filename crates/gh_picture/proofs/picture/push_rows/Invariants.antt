use Rattle.std.proofs.Common.{take}
use Rattle.gh_picture.specs.Pictures.{AddsPanels}
use Rattle.gh_picture.proofs.picture.push_rows.Given as goal

abbrev pub invariant-loop-row : goal.invariant-loop-row
invariant-loop-row l =
    AddsPanels (take l.row-index l.rows) l.columns l.initial.panels l.panels l.extent.lines l.extent.columns
