use Rattle.std.proofs.Common.{◌≡◌, ◌++◌, drop}
use Rattle.std.specs.List.{flat_map}
use Rattle.gh_picture.specs.Written.{leaf_text}
use Rattle.gh_picture.proofs.writing.push_leaves.Given as goal

abbrev pub invariant-loop-leaf : goal.invariant-loop-leaf
invariant-loop-leaf l =
    l.out ++ flat_map leaf_text (drop l.leaf-index l.leaves) ≡ l.initial.out ++ flat_map leaf_text l.leaves
