use Rattle.std.proofs.Common.{◌≡◌, ◌++◌, drop}
use Rattle.std.specs.List.{flat_map}
use Rattle.gh_picture.specs.Written.{group_text}
use Rattle.gh_picture.proofs.writing.push_groups.Given as goal

abbrev pub invariant-loop-group : goal.invariant-loop-group
invariant-loop-group l =
    l.out ++ flat_map group_text (drop l.group-index l.groups) ≡ l.initial.out ++ flat_map group_text l.groups
