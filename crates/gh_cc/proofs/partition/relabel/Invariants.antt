use Rattle.std.proofs.Common.{◌≡◌, ◌++◌, map, take, drop}
use Rattle.gh_cc.specs.Partitions.{moved}
use Rattle.gh_cc.proofs.partition.relabel.Given as goal

abbrev pub invariant-loop-r : goal.invariant-loop-r
invariant-loop-r l =
    l.r-items ≡ map (moved l.old l.new) (take l.r-index l.initial.r-items) ++ drop l.r-index l.initial.r-items
