use Rattle.std.proofs.Common.{◌≡◌, map, take}
use Rattle.gh_base.specs.Atoms.{opposite}
use Rattle.gh_reduce.proofs.clauses.opposites.Given as goal

abbrev pub invariant-loop-lit : goal.invariant-loop-lit
invariant-loop-lit l = l.opposites.items ≡ map opposite (take l.lit-index l.lits)
