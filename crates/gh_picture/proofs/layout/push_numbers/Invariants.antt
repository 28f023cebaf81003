use Rattle.std.proofs.Common.{◌≡◌, ◌++◌, drop}
use Rattle.gh_picture.specs.Spots.{numbers}
use Rattle.gh_picture.proofs.layout.push_numbers.Given as goal

abbrev pub invariant-loop-number : goal.invariant-loop-number
invariant-loop-number l =
    l.order.items ++ numbers l.number (drop l.number l.cells) ≡ l.initial.order.items ++ numbers 0 l.cells
