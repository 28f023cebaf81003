use Rattle.std.proofs.Common.{◌≡◌, ◌∷◌, take}
use Rattle.gh_reduce.proofs.clauses.add_long.Given as goal

abbrev pub invariant-loop-lit : goal.invariant-loop-lit
invariant-loop-lit l = l.clause ≡ l.fn.first ∷ take l.lit-index l.lits
