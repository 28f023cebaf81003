use Rattle.std.proofs.Common.{◌≡◌, ◌++◌, drop}
use Rattle.gh_picture.specs.Spots.{heads}
use Rattle.gh_picture.proofs.layout.push_heads.Given as goal

abbrev pub invariant-loop-number : goal.invariant-loop-number
invariant-loop-number l =
    l.order.items ++ heads l.cells l.number (drop l.number l.cells) ≡ l.initial.order.items ++ heads l.cells 0 l.cells
