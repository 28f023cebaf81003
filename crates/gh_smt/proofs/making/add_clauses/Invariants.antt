use Rattle.std.proofs.Common.{◌≡◌, ◌++◌, take}
use Rattle.gh_smt.proofs.making.add_clauses.Given as goal

abbrev pub invariant-loop-number : goal.invariant-loop-number
invariant-loop-number l = l.asserted.items ≡ l.initial.asserted.items ++ take l.number l.ground.clauses
