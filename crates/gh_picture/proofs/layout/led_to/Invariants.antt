use Rattle.std.proofs.Common.{take}
use Rattle.gh_picture.specs.Placing.{AreFlags}
use Rattle.gh_picture.proofs.layout.led_to.Given as goal

abbrev pub invariant-loop-cell : goal.invariant-loop-cell
invariant-loop-cell l = AreFlags l.cells (take l.cell-index l.cells) l.flags.items
