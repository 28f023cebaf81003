use Rattle.std.proofs.Common.{◌≡◌, ◌++◌, drop}
use Rattle.std.specs.List.{flat_map}
use Rattle.gh_picture.specs.Written.{escape}
use Rattle.gh_picture.proofs.writing.push_escaped.Given as goal

abbrev pub invariant-loop-byte : goal.invariant-loop-byte
invariant-loop-byte l = l.out ++ flat_map escape (drop l.byte-index l.bytes) ≡ l.initial.out ++ flat_map escape l.bytes
