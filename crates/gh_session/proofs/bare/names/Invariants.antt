use Rattle.std.proofs.Common.{◌≡◌, take}
use Rattle.gh_ast.specs.Programs.{names}
use Rattle.gh_session.proofs.bare.names.Given as goal

abbrev pub invariant-loop-one : goal.invariant-loop-one
invariant-loop-one l = l.copies.items ≡ names (take l.one-index l.occs)
