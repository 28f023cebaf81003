use Rattle.std.proofs.Common.{◌≡◌, ◌++◌, drop}
use Rattle.std.specs.List.{flat_map}
use Rattle.gh_picture.specs.Written.{attribute_text}
use Rattle.gh_picture.proofs.writing.push_attributes.Given as goal

abbrev pub invariant-loop-attribute : goal.invariant-loop-attribute
invariant-loop-attribute l =
    l.out ++ flat_map attribute_text (drop l.attribute-index l.attribute-items)
    ≡ l.initial.out ++ flat_map attribute_text l.attribute-items
