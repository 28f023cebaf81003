use Rattle.std.proofs.Common.{◌≡◌, ◌++◌, map, take, drop}
use Rattle.gh_cc.specs.Partitions.{moved}
use Rattle.gh_ground.proofs.classes.relabel.Given as goal

abbrev pub invariant-loop-class : goal.invariant-loop-class
invariant-loop-class l =
    l.class-items ≡ map (moved l.old l.new) (take l.class-index l.initial.class-items)
    ++ drop l.class-index l.initial.class-items
