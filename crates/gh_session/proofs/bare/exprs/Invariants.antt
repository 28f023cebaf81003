use Rattle.std.proofs.Common.{◌≡◌, map, take}
use Rattle.gh_ast.specs.Bare.{bare_expr}
use Rattle.gh_session.proofs.bare.exprs.Given as goal

abbrev pub invariant-loop-one : goal.invariant-loop-one
invariant-loop-one l = l.copies.items ≡ map bare_expr (take l.one-index l.exprs)
