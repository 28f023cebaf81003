use Rattle.std.proofs.Common.{All, take}
use Rattle.gh_inst.specs.Violations.{IsClauseTrueIn}
use Rattle.gh_ground.proofs.checked.are_clauses_true.Given as goal

abbrev pub invariant-loop-number : goal.invariant-loop-number
invariant-loop-number l = All (IsClauseTrueIn l.structure) (take l.number l.ground.clauses)
