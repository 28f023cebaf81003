use Rattle.std.proofs.Common.{◌≡◌, ◌++◌, drop}
use Rattle.std.specs.List.{flat_map}
use Rattle.gh_picture.specs.Written.{panel_text}
use Rattle.gh_picture.proofs.writing.push_panels.Given as goal

abbrev pub invariant-loop-panel : goal.invariant-loop-panel
invariant-loop-panel l =
    l.out ++ flat_map panel_text (drop l.panel-index l.panels) ≡ l.initial.out ++ flat_map panel_text l.panels
