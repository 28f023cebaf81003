use Rattle.std.proofs.Common.{take}
use Rattle.gh_check.specs.RootUnits.{AreAtRest}
use Rattle.gh_check.proofs.root_units.all_rest.Given as goal

abbrev pub invariant-loop-position : goal.invariant-loop-position
invariant-loop-position l = AreAtRest l.told.lits (take l.position l.kept.clauses)
