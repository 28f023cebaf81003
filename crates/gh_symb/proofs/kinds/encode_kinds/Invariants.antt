use Rattle.std.proofs.Common.{◌≡◌, map, take}
use Rattle.gh_symb.specs.Tables.{kind_of}
use Rattle.gh_symb.specs.Encodings.{plain_kind}
use Rattle.gh_symb.proofs.kinds.encode_kinds.Given as goal

abbrev pub invariant-loop-place : goal.invariant-loop-place
invariant-loop-place l = map plain_kind l.terms ≡ map kind_of (take l.place l.kinds)
